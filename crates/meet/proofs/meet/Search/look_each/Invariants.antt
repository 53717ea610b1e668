use Rattle.std.proofs.Common.{ℕ, ◌<◌}
use Rattle.cell.specs.Calls.{IsPassOf, KeepsResults}
use Rattle.cell_table.specs.Nacks.{CanStandAlone}
use Rattle.meet.specs.Rooms.{EachPutsOn, IsRoomsPassOf}
use Rattle.meet_scan.specs.Searches.{Grows}
use Rattle.meet_scan.specs.Steps.{SearchMade}
use Rattle.meet_scan.specs.declared.found.Found.TheVariants.{Waits}
use Rattle.meet.proofs.meet.Search.look_each.Given as goal

abbrev pub invariant-loop-n : goal.invariant-loop-n
invariant-loop-n g l =
    IsPassOf l.self.cells.now l.pass × Grows l.fn.pass.seen l.pass.seen
    × ((k : ℕ) → k < l.n → ¬ CanStandAlone l.fn.pass.seen l.row k) × IsRoomsPassOf l.self.meet.now l.lanes
    × SearchMade l.row Waits l.fn.pass.made l.pass.made × KeepsResults l.fn.pass l.pass × EachPutsOn l.fn.lanes.passes.items l.lanes.passes.items
