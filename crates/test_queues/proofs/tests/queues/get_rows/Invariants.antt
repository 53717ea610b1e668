use Rattle.meet_queues.specs.Ends.{IsEndOf}
use Rattle.test_queues.proofs.tests.queues.get_rows.Given as goal

abbrev pub invariant-loop : goal.invariant-loop
invariant-loop g l =
    (goal.iterator-loop g).can_next l.iterator' × (goal.iterator-loop g).is_finite l.iterator'
    × IsEndOf l.ready l.end
