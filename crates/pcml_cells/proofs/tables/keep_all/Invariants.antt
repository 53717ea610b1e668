use Rattle.std.proofs.Common.{Some, drop, length, map, slice_get, ◌+◌, ◌<◌, ◌≡◌, ℕ}
use Rattle.std.specs.Vec.Iter.{into_iter_items, into_iter_len}
use Rattle.pcml_cells.specs.declared.handle.Handle.{Handle}
use Rattle.pcml_cells.proofs.tables.keep_all.Given as goal

-- the first handles keep the first boxes, and the others are left
abbrev pub invariant-loop-n : goal.invariant-loop-n
invariant-loop-n l =
    (into_iter_items l.rest ≡ drop l.n l.fn.boxes.items) × (into_iter_len l.rest + l.n ≡ length l.fn.boxes.items) × (length l.passes ≡ length l.fn.passes)
    × ((k : ℕ) (place : Handle) → k < l.n → slice_get l.passes k ≡ Some place → place.kept ≡ slice_get (map (λ b. b.value) l.fn.boxes.items) k)
