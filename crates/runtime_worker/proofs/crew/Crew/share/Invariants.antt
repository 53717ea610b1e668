use Rattle.meet_queues.specs.Ends.{IsEndOf}
use Rattle.runtime_worker.proofs.crew.Crew.share.Given as goal

abbrev pub invariant-loop : goal.invariant-loop
invariant-loop g l = IsEndOf l.self.shared.now.ready l.end-2
