use Rattle.std.specs.Prelude.{All}
use Rattle.std.specs.Vec.Iter.{into_iter_items}
use Rattle.cell.specs.Calls.{IsPassOf, PassOf}
use Rattle.cell.specs.Hearing.{HasGathered, HasHeard}
use Rattle.cell.proofs.cells.Cells.told_one.Given as goal

-- Whoever has heard of the one that was told, and of those that are still to leave to it, has heard of all; and the others have left.
abbrev pub invariant-loop-pass : goal.invariant-loop-pass
invariant-loop-pass g l =
    (goal.iterator-loop-pass g).can_next l.pass-iterator × (goal.iterator-loop-pass g).is_finite l.pass-iterator
    × IsPassOf l.self l.told.pass × All (λ p. IsPassOf l.self p) (into_iter_items l.pass-iterator)
    × ((p : PassOf g.row.M.Denot) → HasHeard l.told.pass p → All (λ q. HasHeard q p) (into_iter_items l.pass-iterator) → All (λ q. HasHeard q p) l.fn.passes.items)
    × HasGathered l.fn.passes.items (into_iter_items l.pass-iterator) l.told
