use Rattle.std.proofs.Common.{length}
use Rattle.script.specs.Scripts.{script_of}
use Rattle.journal_text.proofs.Journals.{IsSoFar}
use Rattle.journal_text.proofs.read_journal.Given as goal

abbrev pub invariant-loop-front : goal.invariant-loop-front
invariant-loop-front l = IsSoFar (script_of l.script) l.bytes l.commits.items l.front.bytes.now

abbrev pub decreases-loop-front : goal.decreases-loop-front
decreases-loop-front l = length l.front.bytes.now
