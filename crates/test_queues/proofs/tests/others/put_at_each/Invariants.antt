use Rattle.std.specs.Prelude.{◌≡◌, All, length}
use Rattle.meet_queues.specs.Ends.{IsEndOf}
use Rattle.test_queues.proofs.tests.others.put_at_each.Given as goal

abbrev pub invariant-loop-at : goal.invariant-loop-at
invariant-loop-at g l =
    All (IsEndOf l.ready) l.ends × (length l.ends ≡ length l.initial.ends)
