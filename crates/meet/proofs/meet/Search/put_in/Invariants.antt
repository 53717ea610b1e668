use Rattle.cell.specs.Calls.{IsPassOf}
use Rattle.meet.specs.Rooms.{EachPutsOn, IsRoomsPassOf}
use Rattle.meet_scan.specs.Searches.{Grows}
use Rattle.meet_scan.specs.Steps.{OnlyLooks}
use Rattle.meet.proofs.Choosing.{ArePut}
use Rattle.meet.proofs.meet.Search.put_in.Given as goal

abbrev pub invariant-loop-n : goal.invariant-loop-n
invariant-loop-n g l =
    IsPassOf l.self.cells.now l.pass × Grows l.fn.pass.seen l.pass.seen × IsRoomsPassOf l.self.meet.now l.lanes
    × OnlyLooks l.fn.pass l.pass × EachPutsOn l.fn.lanes.passes.items l.lanes.passes.items
    × ArePut l.self.meet.now l.row l.directions l.fn.lanes.passes.items l.lanes.passes.items l.n
