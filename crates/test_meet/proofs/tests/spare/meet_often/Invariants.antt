use Rattle.cell.specs.Calls.{IsPassOf}
use Rattle.meet.specs.Rooms.{IsMeetPassOf}
use Rattle.test_meet.proofs.tests.spare.meet_often.Given as goal

abbrev pub invariant-loop-sync : goal.invariant-loop-sync
invariant-loop-sync g l = IsPassOf l.cells l.pass × IsMeetPassOf l.meet l.lanes
