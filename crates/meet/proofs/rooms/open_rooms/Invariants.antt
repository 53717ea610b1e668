use Rattle.std.proofs.Common.{◌≡◌, ◌≤◌, [], length}
use Rattle.meet.specs.Rooms.{EachServes}
use Rattle.meet.proofs.rooms.open_rooms.Given as goal

abbrev pub invariant-loop : goal.invariant-loop
invariant-loop l = (length l.all.items ≡ l.counter) × (l.counter ≤ l.passes) × EachServes [] l.all.items × (l.rooms.items ≡ [])

abbrev pub invariant-loop-2 : goal.invariant-loop-2
invariant-loop-2 l = (length l.all.items ≡ l.passes) × EachServes l.rooms.items l.all.items × (length l.rooms.items ≡ l.counter) × (l.counter ≤ l.count)
