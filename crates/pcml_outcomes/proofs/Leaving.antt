-- The journal of who is left behind.
use Rattle.std.proofs.Common.{◌≡◌, Bool, List, refl}
use Rattle.std.specs.Prelude.{IfSome}
use Rattle.std.specs.List.{AllByRecursion}
use Rattle.script.specs.Sources.{Script}
use Rattle.script.specs.Spelling.{IsSpelled}
use Rattle.journal_text.specs.Journals.{HasLine}
use Rattle.journal_text.specs.Names.{names_of}
use Rattle.journal_text.proofs.Lining.{run_has_lines}
use Rattle.reachable.specs.Left.{IsLeftBehind}
use Rattle.reachable.specs.declared.left.Left.{Left}
use Rattle.reachable.specs.declared.left.Left.TheVariants.{Behind, Nobody, Unknown}
use Rattle.reachable.specs.declared.left.LeftBehind.{LeftBehind}
use Rattle.pcml_outcomes.specs.Left.{left_run}

-- each commit of its journal has a line
pub left-has-lines : (s : Script) → IsSpelled s → (marks : List Bool) (left : Left) → ((one : LeftBehind) → left ≡ Behind one → IsLeftBehind s.processes marks one) → IfSome (left_run left) (AllByRecursion (HasLine (names_of s)))
left-has-lines s spelled marks (Behind one) behind = let its = behind one refl in run_has_lines s spelled its.rows its.few one.journal.items its.run
left-has-lines s spelled marks Nobody behind = tt
left-has-lines s spelled marks Unknown behind = tt
