use Rattle.meet_queues.specs.Lanes.{IsLanePassOf}
use Rattle.test_queues.proofs.tests.lane_threads.take_all.Given as goal

abbrev pub invariant-loop : goal.invariant-loop
invariant-loop g l =
    (goal.iterator-loop g).can_next l.iterator' × (goal.iterator-loop g).is_finite l.iterator'
    × IsLanePassOf l.lane l.taker.pass
