use Rattle.cell.specs.Calls.{IsPassOf}
use Rattle.meet.specs.Rooms.{IsMeetPassOf}
use Rattle.test_meet.proofs.tests.acts.play.Given as goal

abbrev pub invariant-loop-act : goal.invariant-loop-act
invariant-loop-act g l = IsPassOf l.cells l.pass × IsMeetPassOf l.meet l.lanes
