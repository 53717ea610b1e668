-- What clauses say of a lane's passes.
use Rattle.std.specs.Prelude.{◌≡◌, ℕ, ◌+◌, [], ◌∷◌, Some, None}
use Rattle.protocol_values.specs.declared.Row.{Row}
use Rattle.crossbeam_queue.specs.SegTies.{IsSegPassOf}
use Rattle.meet_queues.specs.declared.entries.Entry.{Entry}
use Rattle.meet_queues.specs.declared.entries.QueueView.{QueueView}
use Rattle.meet_queues.specs.Hands.{IsHandOf, gets, hand, puts}
use Rattle.meet_queues.specs.declared.lane.Lane.{Lane}
use Rattle.meet_queues.specs.declared.lane.LanePass.{LanePass}

-- a row and the number of one of its offers
abbrev pub Offered : Type 0
Offered = Row × ℕ

abbrev pub pass_count : LanePass → ℕ
pass_count p = p.count

-- what the pass knows of its lane: what it put there and took
abbrev pub hand_of : LanePass → QueueView Offered
hand_of p = p.hand.me.view.client

-- it is a pass of this lane
abbrev pub IsLanePassOf : Lane → LanePass → Type 0
IsLanePassOf lane p = IsSegPassOf lane.queue p.hand × IsHandOf p.number p.count (hand_of p)

-- the pass has its number and its count still, and has put and taken nothing
abbrev pub IsSame : LanePass → LanePass → Type 0
IsSame before after = (after.number ≡ before.number) × (after.count ≡ before.count) × (hand_of after ≡ hand_of before)

-- what the pass puts next
abbrev pub entry : Offered → LanePass → Entry Offered
entry waiting p = record { item = waiting; end = p.number; count = p.count }

-- it has put this at the back of the lane, and nothing else
abbrev pub HasPut : LanePass → LanePass → Offered → Type 0
HasPut before after waiting = (after.number ≡ before.number) × (after.count ≡ before.count + 1) × (hand_of after ≡ puts (hand_of before) (entry waiting before))

-- it has taken this from the front of the lane, and nothing else
abbrev pub HasTaken : LanePass → LanePass → Offered → Type 0
HasTaken before after waiting = (after.number ≡ before.number) × (after.count ≡ before.count) × ((e : Entry Offered) × (e.item ≡ waiting) × (hand_of after ≡ gets (hand_of before) (e ∷ [])))

-- a new pass has put and taken nothing
abbrev pub IsNewPass : ℕ → LanePass → Type 0
IsNewPass n p = (p.number ≡ n) × (p.count ≡ 0) × (hand_of p ≡ hand (Some n) None 0 [] [])
