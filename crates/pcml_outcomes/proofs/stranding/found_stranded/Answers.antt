use Rattle.std.proofs.Common.{◌≡◌, Bool, List, Some, Contains, arith, map, slice_get, subst, true, ℕ}
use Rattle.std.proofs.lemmas.Option.{get_or_from_slice_get, slice_get_within}
use Rattle.script.specs.Scripts.{script_of}
use Rattle.script_tree.specs.Processes.{Proc, proc_of}
use Rattle.journal_text.proofs.Lining.{run_has_lines}
use Rattle.reachable.specs.Left.{AreSeen}
use Rattle.reachable.specs.Stranded.{AreStrandedBehind, TellAllLost}
use Rattle.reachable.specs.declared.stranded.Stranded.{Stranded}
use Rattle.pcml_outcomes.specs.Stranding.{asks_who_waits, sought}
use Rattle.pcml_outcomes.proofs.stranding.found_stranded.Goals as goal

pub returns : goal.returns
returns g c =
    let s = script_of c.args.script.now in
    let asked = c.args.asked.now in
    let found = c.in_ok-found.found in
    let list = found.stranded.items in
    let told = c.in_ok-found.ensures in
    let same = c.processes.ensures.value in
    let marks = c.sought.ensures in
    let waits = c.asks_who_waits-waits.ensures in
    let given : List Proc = map proc_of c.processes.result.now in
    let are : AreStrandedBehind (asks_who_waits asked.told) s.processes (sought asked.told asked.named.items) list =
    subst (λ (ps : List Proc). AreStrandedBehind (asks_who_waits asked.told) ps (sought asked.told asked.named.items) list) same
    (subst (λ (ms : List Bool). AreStrandedBehind (asks_who_waits asked.told) given ms list) marks (subst (λ b. AreStrandedBehind b given c.sought.result.now list) waits told.told)) in
    let here : (k : ℕ) (one : Stranded) → slice_get list k ≡ Some one → Contains list one = λ k one is. (k, slice_get_within list k one is, get_or_from_slice_get list k one one is) in
    record {
      lost = record {
        told = are;
        in_turn = told.in_turn;
        whole = subst (λ (ps : List Proc). found.is_whole ≡ true → TellAllLost (asks_who_waits asked.told) ps (sought asked.told asked.named.items) list) same
            (subst (λ (ms : List Bool). found.is_whole ≡ true → TellAllLost (asks_who_waits asked.told) given ms list) marks
            (subst (λ b. found.is_whole ≡ true → TellAllLost b given c.sought.result.now list) waits told.whole));
        seen = subst (λ (ps : List Proc). AreSeen ps found.is_whole found.visited) same told.seen;
        cut = told.cut;
        few = told.few;
      };
      told = λ k one is.
          let its = are one (here k one is) in
          omega (arith, slice_get_within (sought asked.told asked.named.items) one.process true its.marked, c.requires.marks);
      runs = λ k one is.
          let its = are one (here k one is) in
          run_has_lines s c.processes.ensures.spelled its.rows its.few one.journal.items its.run;
    }
