use Rattle.meet_queues.specs.Ends.{IsEndOf}
use Rattle.runtime_worker.proofs.crew.Crew.wait_for_row.Given as goal

abbrev pub invariant-loop : goal.invariant-loop
invariant-loop g l =
    (goal.iterator-loop g).can_next l.iterator' × (goal.iterator-loop g).is_finite l.iterator' × IsEndOf l.self.shared.now.ready l.end
