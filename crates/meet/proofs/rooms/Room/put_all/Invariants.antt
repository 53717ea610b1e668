use Rattle.std.proofs.Common.{take}
use Rattle.meet_queues.specs.Lanes.{IsLanePassOf}
use Rattle.meet.specs.Rooms.{AllJoin, PutsOn}
use Rattle.meet.proofs.rooms.Room.put_all.Given as goal

abbrev pub invariant-loop-entry : goal.invariant-loop-entry
invariant-loop-entry g l = IsLanePassOf l.self.lane l.lane × AllJoin l.fn.lane l.lane (take l.entry-index l.entries) × PutsOn l.fn.lane l.lane
