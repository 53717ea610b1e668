use Rattle.cell.specs.Calls.{IsPassOf, KeepsResults}
use Rattle.meet.specs.Rooms.{Serves}
use Rattle.meet_scan.specs.Searches.{Grows}
use Rattle.meet.specs.Wakings.{Wakes}
use Rattle.meet.proofs.rooms.Rooms.wake_room.Given as goal

abbrev pub invariant-loop : goal.invariant-loop
invariant-loop g l =
    (goal.iterator-loop g).can_next l.iterator' × (goal.iterator-loop g).is_finite l.iterator' × IsPassOf l.self.cells.now l.pass × Grows l.fn.pass.seen l.pass.seen × Serves l.self.rooms.now l.lanes.passes.items
    × Wakes l.base l.fn.pass l.pass l.woken.items × KeepsResults l.fn.pass l.pass
