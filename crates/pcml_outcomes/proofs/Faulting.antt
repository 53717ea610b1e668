-- The journal of who faults.
use Rattle.std.proofs.Common.{◌≡◌, List, refl}
use Rattle.std.specs.Prelude.{IfSome}
use Rattle.std.specs.List.{AllByRecursion}
use Rattle.script.specs.Sources.{Script}
use Rattle.script.specs.Spelling.{IsSpelled}
use Rattle.journal_text.specs.Journals.{HasLine}
use Rattle.journal_text.specs.Names.{names_of}
use Rattle.journal_text.proofs.Lining.{run_has_lines}
use Rattle.reachable.specs.Faults.{IsFaultBehind}
use Rattle.reachable.specs.declared.faults.Faults.{Faults}
use Rattle.reachable.specs.declared.faults.Faults.TheVariants.{First, Nobody, Unknown}
use Rattle.reachable.specs.declared.faults.FirstFault.{FirstFault}
use Rattle.pcml_outcomes.specs.Faults.{fault_run}

-- each commit of its journal has a line
pub fault-has-lines : (s : Script) → IsSpelled s → (faults : Faults) → ((one : FirstFault) → faults ≡ First one → IsFaultBehind s.processes one) → IfSome (fault_run faults) (AllByRecursion (HasLine (names_of s)))
fault-has-lines s spelled (First one) told = let its = told one refl in run_has_lines s spelled its.rows its.few one.journal.items its.run
fault-has-lines s spelled Nobody told = tt
fault-has-lines s spelled Unknown told = tt
