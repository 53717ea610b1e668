use Rattle.std.proofs.Common.{◌≡◌, List, subst}
use Rattle.script.specs.Scripts.{script_of}
use Rattle.script_tree.specs.Processes.{Proc}
use Rattle.reachable.specs.Left.{EachCanEnd, IsLeftBehind}
use Rattle.reachable.specs.declared.left.Left.TheVariants.{Behind, Nobody}
use Rattle.reachable.specs.declared.left.LeftBehind.{LeftBehind}
use Rattle.pcml_outcomes.proofs.Leaving.{left-has-lines}
use Rattle.pcml_outcomes.proofs.left.found_left.Goals as goal

pub returns-clause-found : goal.returns-clause-found
returns-clause-found g c =
    let marks = c.args.marks.now in
    let found = c.in_ok-found.found in
    let told = c.in_ok-found.ensures in
    let same = c.processes.ensures.value in
    record {
      behind = subst (λ (ps : List Proc). (left : LeftBehind) → found.left ≡ Behind left → IsLeftBehind ps marks left) same told.behind;
      nobody = subst (λ (ps : List Proc). found.left ≡ Nobody → EachCanEnd ps marks) same told.nobody;
      cut = told.cut;
      few = told.few;
    }

pub returns-clause-lines : goal.returns-clause-lines
returns-clause-lines g c =
    let s = script_of c.args.script.now in
    let marks = c.args.marks.now in
    let found = c.in_ok-found.found in
    left-has-lines s c.processes.ensures.spelled marks found.left (subst (λ (ps : List Proc). (left : LeftBehind) → found.left ≡ Behind left → IsLeftBehind ps marks left) c.processes.ensures.value c.in_ok-found.ensures.behind)
