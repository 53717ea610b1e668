use Rattle.std.proofs.Common.{length}
use Rattle.protocol.proofs.Plans.{IsSoFar}
use Rattle.protocol.proofs.schedule.read_schedule.Given as goal

abbrev pub invariant-loop-rest : goal.invariant-loop-rest
invariant-loop-rest l = IsSoFar l.bytes l.size l.steps.items l.rest

abbrev pub decreases-loop-rest : goal.decreases-loop-rest
decreases-loop-rest l = length l.rest
