use Rattle.std.proofs.Common.{length, take}
use Rattle.script.specs.Scripts.{script_of}
use Rattle.pcml_answers.specs.Tallies.{IsTally}
use Rattle.pcml_answers.proofs.tallying.tally_journal.Given as goal

abbrev pub invariant-loop-commit : goal.invariant-loop-commit
invariant-loop-commit l = IsTally (length (script_of l.script).processes) (length (script_of l.script).channels) (take l.commit-index l.journal) l.tallies
