-- The slots before this one are empty, and the others full. What was kept lay in a slot, of a thread of which a row is open, and
-- all that lay so was kept.
use Rattle.std.proofs.Common.{◌≡◌, ℕ, ◌-◌, ◌<◌, ◌≤◌, Some, length, true, false, get_or, slice_get}
use Rattle.std.specs.Slots.{slots_filled, slots_items, slots_len}
use Rattle.cell_table.specs.Closings.{IsHomeOf}
use Rattle.cell_table.proofs.closing.take_home.Given as goal

abbrev pub invariant-loop-at : goal.invariant-loop-at
invariant-loop-at g l =
    ((k : ℕ) → l.at ≤ k → k < slots_len l.closed.slots → get_or (slots_filled l.closed.slots) k false ≡ true)
    × ((k : ℕ) → k < l.at → get_or (slots_filled l.closed.slots) k false ≡ false)
    × (slots_items l.closed.slots ≡ slots_items l.fn.closed.slots)
    × (length l.places.items ≡ slots_len l.closed.slots)
    × ((t : ℕ) (value : g.row.M.Denot) → slice_get l.places.items t ≡ Some (Some value) → IsHomeOf l.shape l.words (slots_items l.closed.slots) t value)
    × ((t : ℕ) (value : g.row.M.Denot) → t < l.at → IsHomeOf l.shape l.words (slots_items l.closed.slots) t value → slice_get l.places.items t ≡ Some (Some value))

abbrev pub decreases-loop-at : goal.decreases-loop-at
decreases-loop-at g l = slots_len l.closed.slots - l.at
