use Rattle.std.proofs.Common.{◌≡◌}
use Rattle.std.specs.Prelude.{All}
use Rattle.std.specs.Vec.Iter.{into_iter_items}
use Rattle.runtime_worker.specs.Workers.{IsLeavingsOf}
use Rattle.runtime_run.proofs.workers.join_all.Given as goal

abbrev pub invariant-loop-handle : goal.invariant-loop-handle
invariant-loop-handle g l =
    (goal.iterator-loop-handle g).can_next l.handle-iterator × (goal.iterator-loop-handle g).is_finite l.handle-iterator
    × All (λ h. h.promise.cells.value ≡ l.fn.cells) (into_iter_items l.handle-iterator)
    × All (λ m. IsLeavingsOf l.fn.cells m) l.back.items
