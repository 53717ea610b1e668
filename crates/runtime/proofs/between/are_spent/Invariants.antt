use Rattle.std.proofs.Common.{◌≡◌, ◌<◌, ℕ, Some, slice_get}
use Rattle.thread.specs.Machines.{Thread}
use Rattle.runtime.specs.Between.{IsSpent, had_by}
use Rattle.runtime.proofs.between.are_spent.Given as goal

-- none of those before this one
abbrev pub invariant-loop-thread : goal.invariant-loop-thread
invariant-loop-thread l = (k : ℕ) (m : Thread) → k < l.thread → slice_get l.machines k ≡ Some (Some m) → IsSpent m (had_by l.had k) l.rows → ⊥
