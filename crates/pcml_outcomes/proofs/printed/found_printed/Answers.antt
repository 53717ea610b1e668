use Rattle.std.proofs.Common.{◌≡◌, List, subst}
use Rattle.std.specs.Global.{Vec}
use Rattle.protocol_values.specs.declared.Commit.{Commit}
use Rattle.script.specs.Scripts.{script_of}
use Rattle.script_tree.specs.Processes.{Proc}
use Rattle.reachable.specs.Printed.{IsPrintedBehind, NeverPrints}
use Rattle.reachable.specs.declared.printed.Printed.TheVariants.{Behind, Never}
use Rattle.pcml_outcomes.proofs.Printing.{printed-has-lines}
use Rattle.pcml_outcomes.proofs.printed.found_printed.Goals as goal

pub returns-clause-found : goal.returns-clause-found
returns-clause-found g c =
    let print = c.args.print in
    let found = c.in_ok-found.found in
    let told = c.in_ok-found.ensures in
    let same = c.processes.ensures.value in
    record {
      told = subst (λ (ps : List Proc). (journal : Vec Commit) → found.printed ≡ Behind journal → IsPrintedBehind ps print.process print.value journal.items) same told.told;
      never = subst (λ (ps : List Proc). found.printed ≡ Never → NeverPrints ps print.process print.value) same told.never;
      cut = told.cut;
      few = told.few;
    }

pub returns-clause-lines : goal.returns-clause-lines
returns-clause-lines g c =
    let s = script_of c.args.script.now in
    let print = c.args.print in
    let found = c.in_ok-found.found in
    printed-has-lines s c.processes.ensures.spelled print found.printed
    (subst (λ (ps : List Proc). (journal : Vec Commit) → found.printed ≡ Behind journal → IsPrintedBehind ps print.process print.value journal.items) c.processes.ensures.value c.in_ok-found.ensures.told)
