use Rattle.std.proofs.Common.{◌≡◌}
use Rattle.cell.specs.Calls.{IsPassOf}
use Rattle.cell_table.specs.Sight.{Has, SawEnded}
use Rattle.meet.specs.Rooms.{IsMeetPassOf}
use Rattle.test_meet.proofs.tests.lanes.meet_all.Given as goal

abbrev pub invariant-loop-sync : goal.invariant-loop-sync
invariant-loop-sync g l =
    record {
      here : IsPassOf l.cells l.waiter × IsPassOf l.cells l.sender;
      threads : l.cells.threads ≡ 2;
      rows : l.cells.rows ≡ 1001;
      waiter : Has l.waiter.seen.held (record { thread = 0; sync = l.sync }) × (¬ Has l.waiter.seen.opened (record { thread = 0; sync = l.sync })) × (¬ SawEnded l.waiter.seen 0);
      sender : Has l.sender.seen.held (record { thread = 1; sync = l.sync }) × (¬ Has l.sender.seen.opened (record { thread = 1; sync = l.sync })) × (¬ SawEnded l.sender.seen 1);
      lanes : IsMeetPassOf l.meet l.lanes;
    }
