-- Which passes are of which rooms.
use Rattle.std.specs.Prelude.{◌≡◌, ◌⊎◌, ℕ, ◌+◌, ◌*◌, ◌<◌, ◌≤◌, ◌^◌, ◌-◌, ⊤, List, [], ◌∷◌, ◌++◌, All, length, map, set, slice_get, Some}
use Rattle.protocol_values.specs.declared.Direction.{Direction}
use Rattle.protocol_values.specs.declared.Direction.TheVariants.{Always, Never, OnEnd, OnNack, Recv, Send}
use Rattle.protocol_values.specs.declared.Row.{Row}
use Rattle.cell.specs.Calls.{GridOf}
use Rattle.cell_table.specs.Sight.{Has, SeesDirection}
use Rattle.cell_table.specs.declared.view.Seen.{Seen}
use Rattle.meet_queues.specs.declared.entries.Entry.{Entry}
use Rattle.meet_queues.specs.declared.lane.LanePass.{LanePass}
use Rattle.meet_queues.specs.Lanes.{HasPut, IsLanePassOf, IsSame, Offered, hand_of, pass_count}
use Rattle.meet.specs.Queues.{Tidies}
use Rattle.meet_directory.specs.Seats.{Sits}
use Rattle.meet.specs.declared.meet.Meet.{Meet}
use Rattle.meet.specs.declared.meet.MeetPass.{MeetPass}
use Rattle.meet.specs.declared.rooms.RoomsPass.{RoomsPass}
use Rattle.meet.specs.declared.rooms.Room.{Room}

-- there are as many passes as rooms, each of the lane of the room at its place
abbrev pub Serves : List Room → List LanePass → Type 0
Serves [] [] = ⊤
Serves [] (p ∷ ps) = ⊥
Serves (r ∷ rs) [] = ⊥
Serves (r ∷ rs) (p ∷ ps) = IsLanePassOf r.lane p × Serves rs ps

-- each caller has such passes
abbrev pub EachServes : List Room → List RoomsPass → Type 0
EachServes rooms all = All (λ (p : RoomsPass). Serves rooms p.passes.items) all

-- they are passes of these rooms, of which there are two for each channel, and those for nacks and for ends
abbrev pub IsRoomsPassOf : Meet → RoomsPass → Type 0
IsRoomsPassOf meet p = Serves meet.rooms.items p.passes.items × (length meet.rooms.items ≡ 2 * meet.channels + meet.nacks + meet.ends)

-- it is a pass of these rooms, and of this directory, which has two sides for each channel that an offer can name
abbrev pub IsMeetPassOf : Meet → MeetPass → Type 0
IsMeetPassOf meet p = IsRoomsPassOf meet p.rooms × Sits meet.directory p.scan × (512 ≤ meet.directory.sides)

-- the entry was put, or the pass has put as many as it can count
abbrev pub Joins : LanePass → LanePass → Offered → Type 0
Joins before after waiting = ((pass_count before < 2 ^ 64 - 1) × HasPut before after waiting) ⊎ ((pass_count before ≡ 2 ^ 64 - 1) × IsSame before after)

-- what the pass put into its lane
abbrev pub offers_put : LanePass → List Offered
offers_put p = map (λ (e : Entry Offered). e.item) (hand_of p).put

-- these entries were put, in their order, or the pass has put as many as it can count
abbrev pub AllJoin : LanePass → LanePass → List Offered → Type 0
AllJoin before after entries = (offers_put after ≡ offers_put before ++ entries) ⊎ (pass_count after ≡ 2 ^ 64 - 1)

-- the pass has put what it had put, and maybe more behind it
abbrev pub PutsOn : LanePass → LanePass → Type 0
PutsOn before after = (pass_count before ≤ pass_count after) × ((more : List Offered) × (offers_put after ≡ offers_put before ++ more))

-- so has each of the passes
abbrev pub EachPutsOn : List LanePass → List LanePass → Type 0
EachPutsOn [] [] = ⊤
EachPutsOn [] (q ∷ qs) = ⊥
EachPutsOn (p ∷ ps) [] = ⊥
EachPutsOn (p ∷ ps) (q ∷ qs) = PutsOn p q × EachPutsOn ps qs

-- it has put this meanwhile, or as many as it can count
abbrev pub PutMeanwhile : LanePass → LanePass → Offered → Type 0
PutMeanwhile before after waiting = ((more : List Offered) × (offers_put after ≡ offers_put before ++ more) × Has more waiting) ⊎ (2 ^ 64 - 1 ≤ pass_count after)

-- so has the pass of the room at this place
abbrev pub PutAt : ℕ → Offered → List LanePass → List LanePass → Type 0
PutAt at waiting before after =
    (p : LanePass) × (q : LanePass) × (slice_get before at ≡ Some p) × (slice_get after at ≡ Some q) × PutMeanwhile p q waiting

-- What was in hand was put back at this place in its order, but for entries of rows that are now seen committed; nothing is in hand any more.
abbrev pub PutsBack : {M : Type 0} → GridOf M → Seen → Seen → ℕ → RoomsPass → RoomsPass → Type 0
PutsBack g s t at before after = (p : LanePass) → slice_get before.passes.items at ≡ Some p
    → (q : LanePass) × (rest : List Offered) × (after.passes.items ≡ set before.passes.items at q) × Tidies g s t before.in_hand rest × AllJoin p q rest × (after.in_hand ≡ [])

-- the room in which an offer in this direction waits: those who send, those who receive, one for a thread's nacks, and one for a
-- thread's end
abbrev pub WaitsIn : Meet → Direction → ℕ → Type 0
WaitsIn meet (Send chan atoms) at = (chan < meet.channels) × (at ≡ chan)
WaitsIn meet (Recv chan) at = (chan < meet.channels) × (at ≡ meet.channels + chan)
WaitsIn meet (OnNack nack) at = (nack.thread < meet.nacks) × (at ≡ 2 * meet.channels + nack.thread)
WaitsIn meet (Always atoms) at = ⊥
WaitsIn meet (OnEnd thread) at = (thread < meet.ends) × (at ≡ 2 * meet.channels + meet.nacks + thread)
WaitsIn meet Never at = ⊥

-- the room in which those wait whom such an offer can meet
abbrev pub MeetsIn : Meet → Direction → ℕ → Type 0
MeetsIn meet (Send chan atoms) at = (chan < meet.channels) × (at ≡ meet.channels + chan)
MeetsIn meet (Recv chan) at = (chan < meet.channels) × (at ≡ chan)
MeetsIn meet (OnNack nack) at = ⊥
MeetsIn meet (Always atoms) at = ⊥
MeetsIn meet (OnEnd thread) at = ⊥
MeetsIn meet Never at = ⊥

-- each offer of the row that had been seen, and has a room, was put there meanwhile
abbrev pub PutsOffers : Meet → Seen → Row → RoomsPass → RoomsPass → Type 0
PutsOffers meet s r before after = (n : ℕ) (d : Direction) (at : ℕ) → SeesDirection s r n d → WaitsIn meet d at → PutAt at (r, n) before.passes.items after.passes.items
