use Rattle.cell.specs.Calls.{IsPassOf}
use Rattle.meet.specs.Rooms.{IsMeetPassOf}
use Rattle.test_meet.proofs.tests.spare.all_meet.Given as goal

abbrev pub invariant-loop-pair : goal.invariant-loop-pair
invariant-loop-pair g l = IsPassOf l.cells l.pass × IsMeetPassOf l.meet l.lanes
