use Rattle.cell.specs.Calls.{IsPassOf, KeepsResults, PassOf}
use Rattle.meet.specs.Rooms.{Serves}
use Rattle.meet_scan.specs.Searches.{Grows}
use Rattle.meet.specs.Wakings.{Wakes}
use Rattle.meet.proofs.rooms.Rooms.wake_each.Given as goal

abbrev pub invariant-loop : goal.invariant-loop
invariant-loop g l =
    (goal.iterator-loop g).can_next l.iterator' × (goal.iterator-loop g).is_finite l.iterator' × IsPassOf l.self.cells.now l.pass × Grows l.fn.pass.seen l.pass.seen × Serves l.self.rooms.now l.lanes.passes.items
    × ((from : PassOf g.row.M.Denot) → Grows from.seen l.fn.pass.seen → Wakes l.base from l.fn.pass l.fn.woken.items → Wakes l.base from l.pass l.woken.items) × KeepsResults l.fn.pass l.pass
