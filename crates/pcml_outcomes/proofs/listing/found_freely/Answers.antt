use Rattle.std.proofs.Common.{◌≡◌, ℕ, List, Option, Some, subst}
use Rattle.script.specs.Scripts.{script_of}
use Rattle.script_tree.specs.Processes.{Proc}
use Rattle.journal_text.proofs.Lining.{run_has_lines}
use Rattle.outcomes.specs.Outcomes.{ends_in, outputs_in}
use Rattle.outcomes.specs.States.{AreAllFree, AreFreeOutcomes, AreRests, AreStates, ComesRound, EndsWithin, GoesOnForEver}
use Rattle.outcomes.specs.declared.Ending.TheVariants.{ForEver, Within}
use Rattle.outcomes.specs.declared.Extent.TheVariants.{Whole}
use Rattle.outcomes.specs.declared.Round.{Round}
use Rattle.configurations.specs.Taking.{heard_by}
use Rattle.pcml_outcomes.proofs.Clearing.{free-tells}
use Rattle.pcml_outcomes.proofs.Endings.{round-is}
use Rattle.pcml_outcomes.proofs.listing.found_freely.Goals as goal

pub returns-clause-found : goal.returns-clause-found
returns-clause-found g c =
    let asked = c.args.asked.now in
    let found = c.in_ok-found.found in
    let told = c.in_ok-found.ensures in
    let same = c.processes.ensures.value in
    record {
      outcomes = subst (λ (ps : List Proc). AreFreeOutcomes ps found.outcomes.items) same told.told;
      different = told.different;
      all = subst (λ (ps : List Proc). found.extent ≡ Whole → AreAllFree ps asked.named.items found.outcomes.items) same told.whole;
      visited = subst (λ (ps : List Proc). AreStates ps asked.named.items found.extent found.followed found.outcomes.items found.visited) same told.visited;
      few = told.few;
      cut = told.cut;
      first = told.first;
      unspent = told.unspent;
      ends = subst (λ (ps : List Proc). (most : ℕ) → found.ending ≡ Within most → EndsWithin ps most) same told.ends;
      goes_on = subst (λ (ps : List Proc). (round : Option Round) → found.ending ≡ ForEver round → GoesOnForEver ps) same told.goes_on;
      round = subst (λ (ps : List Proc). (round : Round) → found.ending ≡ ForEver (Some round) → ComesRound (heard_by asked.named.items) ps round) same told.round;
      known = told.known;
      rests = subst (λ (ps : List Proc). found.extent ≡ Whole → AreRests ps asked.named.items found.outcomes.items) same told.rests;
    }

pub returns-clause-lines : goal.returns-clause-lines
returns-clause-lines g c k o is =
    let s = script_of c.args.script.now in
    let outcomes = c.in_ok-found.found.outcomes.items in
    let told : AreFreeOutcomes s.processes outcomes = subst (λ (ps : List Proc). AreFreeOutcomes ps outcomes) c.processes.ensures.value c.in_ok-found.ensures.told in
    let its = told k o is in
    run_has_lines s c.processes.ensures.spelled its.leads.rows its.few o.journal.items its.leads.run

pub returns-clause-of : goal.returns-clause-of
returns-clause-of g c k o is =
    let s = script_of c.args.script.now in
    let outcomes = c.in_ok-found.found.outcomes.items in
    let told : AreFreeOutcomes s.processes outcomes = subst (λ (ps : List Proc). AreFreeOutcomes ps outcomes) c.processes.ensures.value c.in_ok-found.ensures.told in
    let tells = free-tells s o.journal.items (ends_in o) (outputs_in o) (told k o is).leads in
    record { ends = tells.ends_count; outputs = tells.outputs_count }

pub returns-clause-round : goal.returns-clause-round
returns-clause-round g c r is =
    let s = script_of c.args.script.now in
    let found = c.in_ok-found.found in
    let comes : ComesRound (heard_by c.args.asked.now.named.items) s.processes r =
    subst (λ (ps : List Proc). ComesRound (heard_by c.args.asked.now.named.items) ps r) c.processes.ensures.value (c.in_ok-found.ensures.round r (round-is found.extent found.ending r is)) in
    record { lines = run_has_lines s c.processes.ensures.spelled comes.rows comes.few r.journal.items comes.run; on = comes.on }
