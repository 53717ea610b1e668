use Rattle.std.specs.Prelude.{All}
use Rattle.std.specs.Vec.Iter.{into_iter_items}
use Rattle.meet.specs.Rooms.{IsMeetPassOf}
use Rattle.meet_queues.specs.Ends.{IsEndOf}
use Rattle.runtime_worker.specs.Workers.{IsNewPassOf, IsNewWorkerOf}
use Rattle.runtime_run.proofs.workers.workers_of.Given as goal

-- so are what is left, and the workers that were made
abbrev pub invariant-loop-pass : goal.invariant-loop-pass
invariant-loop-pass g l =
    (goal.iterator-loop-pass g).can_next l.pass-iterator × (goal.iterator-loop-pass g).is_finite l.pass-iterator
    × All (λ p. IsNewPassOf l.fn.crew.cells.now p) (into_iter_items l.pass-iterator) × All (λ x. IsMeetPassOf l.fn.crew.shared.now.meet x) l.lanes.items × All (λ e. IsEndOf l.fn.crew.shared.now.ready e) l.ends.items
    × All (λ w. IsNewWorkerOf l.fn.crew.cells.now l.fn.crew.shared.now w) l.workers.items
