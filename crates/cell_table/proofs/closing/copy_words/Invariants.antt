use Rattle.std.proofs.Common.{◌≡◌, ◌<◌, ℕ, length, slice_index}
use Rattle.std.specs.Slots.{slots_items, slots_len}
use Rattle.cell_table.proofs.closing.copy_words.Given as goal

-- the words so far are those of the table
abbrev pub invariant-loop-at : goal.invariant-loop-at
invariant-loop-at g l = (length l.words.items ≡ slots_len l.closed.words) × ((i : ℕ) → i < l.at → slice_index l.words.items i ≡ slice_index (slots_items l.closed.words) i)
