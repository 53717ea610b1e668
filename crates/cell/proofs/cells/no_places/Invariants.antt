use Rattle.std.proofs.Common.{◌≡◌, length}
use Rattle.cell.specs.Calls.{HoldNothing}
use Rattle.cell.proofs.cells.no_places.Given as goal

abbrev pub invariant-loop : goal.invariant-loop
invariant-loop g l = (length l.places.items ≡ l.counter) × HoldNothing l.places.items
