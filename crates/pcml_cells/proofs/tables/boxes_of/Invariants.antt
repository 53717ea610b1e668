use Rattle.std.proofs.Common.{map, ◌++◌, ◌≡◌}
use Rattle.std.specs.Vec.Iter.{into_iter_items}
use Rattle.cell_hand.specs.declared.kept.Kept.TheVariants.{Hand}
use Rattle.pcml_cells.proofs.tables.boxes_of.Given as goal

-- the boxes that were made, and the hands that are left, are all
abbrev pub invariant-loop-hand : goal.invariant-loop-hand
invariant-loop-hand l =
    (goal.iterator-loop-hand).can_next l.hand-iterator × (goal.iterator-loop-hand).is_finite l.hand-iterator
    × (map (λ b. b.value) l.boxes.items ++ map Hand (into_iter_items l.hand-iterator) ≡ map Hand l.fn.hands.items)
