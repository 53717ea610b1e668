use Rattle.journal.proofs.Telling.{FiredSo}
use Rattle.journal.proofs.concluding.fired_in.Given as goal

abbrev pub invariant-loop-k : goal.invariant-loop-k
invariant-loop-k l = FiredSo l.opening.nacks.items l.thread l.k l.fired
