-- The journal of who prints a value.
use Rattle.std.proofs.Common.{◌≡◌, List, refl}
use Rattle.std.specs.Prelude.{IfSome}
use Rattle.std.specs.Global.{Vec}
use Rattle.std.specs.List.{AllByRecursion}
use Rattle.protocol_values.specs.declared.Commit.{Commit}
use Rattle.script.specs.Sources.{Script}
use Rattle.script.specs.Spelling.{IsSpelled}
use Rattle.journal_text.specs.Journals.{HasLine}
use Rattle.journal_text.specs.Names.{names_of}
use Rattle.journal_text.proofs.Lining.{run_has_lines}
use Rattle.reachable.specs.Printed.{IsPrintedBehind}
use Rattle.reachable.specs.declared.printed.Printed.{Printed}
use Rattle.reachable.specs.declared.printed.Printed.TheVariants.{Behind, Never, Unknown}
use Rattle.pcml_answers.specs.declared.prints.Print.{Print}
use Rattle.pcml_outcomes.specs.Printed.{printed_run}

-- each commit of its journal has a line
pub printed-has-lines : (s : Script) → IsSpelled s → (print : Print) (printed : Printed) → ((journal : Vec Commit) → printed ≡ Behind journal → IsPrintedBehind s.processes print.process print.value journal.items) → IfSome (printed_run printed) (AllByRecursion (HasLine (names_of s)))
printed-has-lines s spelled print (Behind journal) told = let its = told journal refl in run_has_lines s spelled its.rows its.few journal.items its.run
printed-has-lines s spelled print Never told = tt
printed-has-lines s spelled print Unknown told = tt
