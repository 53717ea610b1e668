use Rattle.std.specs.Prelude.{◌≡◌, ◌+◌, All, length}
use Rattle.meet_directory.specs.Seats.{Sits}
use Rattle.meet.specs.Rooms.{IsMeetPassOf, IsRoomsPassOf}
use Rattle.meet.proofs.meet.Meet.passes.Given as goal

abbrev pub invariant-loop-rooms : goal.invariant-loop-rooms
invariant-loop-rooms l =
    All (IsRoomsPassOf l.self) l.each.items × Sits l.self.directory l.first × All (IsMeetPassOf l.self) l.all.items × (length l.each.items + length l.all.items ≡ length l.initial.each.items)

abbrev pub decreases-loop-rooms : goal.decreases-loop-rooms
decreases-loop-rooms l = length l.each.items
