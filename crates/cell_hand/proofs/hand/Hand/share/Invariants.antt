use Rattle.std.proofs.Common.{◌≡◌, ◌≤◌, ◌++◌, map}
use Rattle.std.specs.Prelude.{All}
use Rattle.std.specs.Vec.Iter.{into_iter_items}
use Rattle.cell.specs.Calls.{IsPassOf}
use Rattle.meet_directory.specs.Seats.{Sits}
use Rattle.cell_hand.proofs.hand.Hand.share.Given as goal

-- the passes of the hands that were made, and those that are left, are all passes
abbrev pub invariant-loop-pass : goal.invariant-loop-pass
invariant-loop-pass l =
    (goal.iterator-loop-pass).can_next l.pass-iterator × (goal.iterator-loop-pass).is_finite l.pass-iterator
    × (map (λ h. h.pass) l.hands.items ++ into_iter_items l.pass-iterator ≡ l.fn.passes.items) × All (λ h. h.table ≡ l.table.value.cells) l.hands.items
    × All (λ p. IsPassOf l.table.value.cells p) (into_iter_items l.pass-iterator) × Sits l.table.value.directory l.scan × (512 ≤ l.table.value.directory.sides)
