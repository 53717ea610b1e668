use Rattle.meet_queues.specs.Lanes.{IsLanePassOf}
use Rattle.test_queues.proofs.tests.lanes.put_rows.Given as goal

abbrev pub invariant-loop-number : goal.invariant-loop-number
invariant-loop-number g l =
    (goal.iterator-loop-number g).can_next l.number-iterator × (goal.iterator-loop-number g).is_finite l.number-iterator
    × IsLanePassOf l.lane l.pass
