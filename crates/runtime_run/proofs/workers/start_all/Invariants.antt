use Rattle.std.proofs.Common.{◌≡◌}
use Rattle.std.specs.Prelude.{All}
use Rattle.std.specs.Vec.Iter.{into_iter_items}
use Rattle.runtime_worker.specs.Workers.{IsNewWorkerOf}
use Rattle.runtime_run.proofs.workers.start_all.Given as goal

abbrev pub invariant-loop-worker : goal.invariant-loop-worker
invariant-loop-worker g l =
    (goal.iterator-loop-worker g).can_next l.worker-iterator × (goal.iterator-loop-worker g).is_finite l.worker-iterator
    × All (λ w. IsNewWorkerOf l.fn.crew.cells.now l.fn.crew.shared.now w) (into_iter_items l.worker-iterator)
    × All (λ h. h.promise.cells.value ≡ l.fn.crew.cells.now) l.handles.items
