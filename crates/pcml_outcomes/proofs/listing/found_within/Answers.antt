use Rattle.std.proofs.Common.{◌≡◌, List, true, false, subst}
use Rattle.script.specs.Scripts.{script_of}
use Rattle.script_tree.specs.Processes.{Proc}
use Rattle.journal_text.proofs.Lining.{run_has_lines}
use Rattle.outcomes.specs.Outcomes.{AreAll, AreOutcomes, AreVisited, CanSpend}
use Rattle.outcomes.specs.declared.Extent.TheVariants.{Whole}
use Rattle.pcml_outcomes.proofs.listing.found_within.Goals as goal

pub returns-clause-found : goal.returns-clause-found
returns-clause-found g c =
    let rows = c.args.rows in
    let asked = c.args.asked.now in
    let found = c.in_ok-found.found in
    let told = c.in_ok-found.ensures in
    let same = c.processes.ensures.value in
    record {
      outcomes = subst (λ (ps : List Proc). AreOutcomes ps rows found.outcomes.items) same told.told;
      different = told.different;
      all = subst (λ (ps : List Proc). found.extent ≡ Whole → AreAll ps rows asked.named.items found.outcomes.items) same told.whole;
      visited = subst (λ (ps : List Proc). AreVisited ps rows found.extent found.outcomes.items found.visited) same told.visited;
      few = told.few;
      cut = told.cut;
      first = told.first;
      bounded = subst (λ (ps : List Proc). found.is_bounded ≡ true → CanSpend ps rows) same told.bounded;
      unbounded = subst (λ (ps : List Proc). found.extent ≡ Whole → found.is_bounded ≡ false → CanSpend ps rows → ⊥) same told.unbounded;
    }

pub returns-clause-lines : goal.returns-clause-lines
returns-clause-lines g c k o is =
    let s = script_of c.args.script.now in
    let outcomes = c.in_ok-found.found.outcomes.items in
    let told : AreOutcomes s.processes c.args.rows outcomes = subst (λ (ps : List Proc). AreOutcomes ps c.args.rows outcomes) c.processes.ensures.value c.in_ok-found.ensures.told in
    run_has_lines s c.processes.ensures.spelled c.args.rows c.requires.rows o.journal.items (told k o is).leads.run

pub returns-clause-of : goal.returns-clause-of
returns-clause-of g c k o is =
    let s = script_of c.args.script.now in
    let outcomes = c.in_ok-found.found.outcomes.items in
    let told : AreOutcomes s.processes c.args.rows outcomes = subst (λ (ps : List Proc). AreOutcomes ps c.args.rows outcomes) c.processes.ensures.value c.in_ok-found.ensures.told in
    let tells = (told k o is).leads.tells in
    record { ends = tells.ends_count; outputs = tells.outputs_count }
