use Rattle.cell.specs.Calls.{IsPassOf}
use Rattle.meet.specs.Rooms.{IsMeetPassOf}
use Rattle.meet_scan.specs.Searches.{Grows}
use Rattle.test_memory.proofs.tables.search_often.Given as goal

abbrev pub invariant-loop : goal.invariant-loop
invariant-loop g l = IsPassOf l.cells l.pass × Grows l.fn.pass.seen l.pass.seen × IsMeetPassOf l.meet l.lanes
