use Rattle.std.proofs.Common.{◌≡◌, ◌≤◌, None, Some, [], All, length}
use Rattle.crossbeam_queue.specs.SegTies.{IsSegPassOf}
use Rattle.meet_queues.specs.Hands.{hand}
use Rattle.meet_queues.specs.Positions.{AllAt}
use Rattle.meet_queues.specs.Lanes.{IsLanePassOf, IsNewPass}
use Rattle.meet_queues.proofs.lane.Lane.new.Given as goal

abbrev pub invariant-loop-number : goal.invariant-loop-number
invariant-loop-number l =
    IsSegPassOf l.lane.queue l.dealer × (l.dealer.me.view.client ≡ hand None (Some l.number) 0 [] [])
    × (length l.all.items ≡ l.number) × (l.number ≤ l.passes) × All (IsLanePassOf l.lane) l.all.items × AllAt IsNewPass l.all.items
