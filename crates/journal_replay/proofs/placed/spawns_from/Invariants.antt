use Rattle.std.proofs.Common.{◌≡◌, ◌<◌, ◌≤◌, ℕ, false}
use Rattle.script_tree.specs.Spawning.{has_bit}
use Rattle.journal_replay.proofs.placed.spawns_from.Given as goal

-- none of those before
abbrev pub invariant-loop-thread : goal.invariant-loop-thread
invariant-loop-thread l = (t : ℕ) → l.number ≤ t → t < l.thread → has_bit l.mask t ≡ false
