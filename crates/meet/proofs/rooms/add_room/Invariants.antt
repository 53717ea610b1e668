use Rattle.std.proofs.Common.{◌≡◌, ◌≤◌, ◌<◌, ◌+◌, ◌++◌, ◌∷◌, [], ℕ, All, length}
use Rattle.meet_queues.specs.Positions.{AllAt}
use Rattle.meet_queues.specs.Lanes.{IsLanePassOf}
use Rattle.meet.specs.declared.rooms.RoomsPass.{RoomsPass}
use Rattle.meet.specs.Rooms.{Serves}
use Rattle.meet.proofs.rooms.add_room.Given as goal

-- the first ones have a pass of the new room
abbrev pub invariant-loop-at : goal.invariant-loop-at
invariant-loop-at l =
    AllAt (λ (n : ℕ) (p : RoomsPass). (n < l.at → Serves (l.rooms.items ++ l.room ∷ []) p.passes.items) × (l.at ≤ n → Serves l.rooms.items p.passes.items)) l.all.items
    × All (IsLanePassOf l.room.lane) l.lane_passes.items × (length l.lane_passes.items + l.at ≡ length l.initial.all.items) × (length l.all.items ≡ length l.initial.all.items) × (l.rooms ≡ l.initial.rooms)
