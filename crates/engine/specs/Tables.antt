-- What a table shows.
use Rattle.std.specs.Prelude.{◌≡◌, ◌≢◌, ◌↔◌, ◌+◌, ℕ, List, [], Option, Some, None, map, length}
use Rattle.channels.specs.States.{State as Channel}
use Rattle.channels.specs.declared.waiting.Waiting.{Waiting}
use Rattle.engine.specs.declared.offers.Offer.{Offer}
use Rattle.engine.specs.declared.offers.Offer.TheVariants.{Send, Receive, Latch, Always}
use Rattle.engine.specs.declared.offers.SyncKey.{SyncKey}
use Rattle.engine.specs.declared.places.Slot.{Slot}
use Rattle.engine.specs.declared.held.Latch.{Latch as Held}
use Rattle.engine.specs.declared.held.Offered.{Offered}
use Rattle.engine.specs.declared.table.Table.{Table}
use Rattle.engine.specs.Calls.{Comes}
use Rattle.engine.specs.Lines.{ChangesOnly, Lined, WaitsAt}
use Rattle.engine.specs.Places.{kept, shown}
use Rattle.engine.specs.States.{LatchState, State, Sync, Promise}

abbrev pub generation_of : ℕ → Channel → ℕ
generation_of generation channel = generation

abbrev pub latch_of : ℕ → Held → LatchState
latch_of generation latch = record { generation = generation; fired = latch.fired }

abbrev pub sync_of : ℕ → Offered → Sync
sync_of generation offered = record { generation = generation; offers = offered.offers.items }

abbrev pub state_of : Table → State
state_of t = record {
  channels = map (shown generation_of) t.channels.slots.items;
  latches = map (shown latch_of) t.latches.slots.items;
  places = map (shown sync_of) t.syncs.slots.items;
  next = t.next;
}

abbrev pub sends_of : Option Channel → List Waiting
sends_of None = []
sends_of (Some channel) = channel.sends

abbrev pub receives_of : Option Channel → List Waiting
receives_of None = []
receives_of (Some channel) = channel.receives

abbrev pub waiting_of : Option Held → List Waiting
waiting_of None = []
waiting_of (Some latch) = latch.line.receives

-- who stands in the line of this offer, whether he waits or not
abbrev pub line_in : List (Slot Channel) → List (Slot Held) → Offer → List Waiting
line_in channels latches (Send key) = sends_of (kept channels key.index key.generation)
line_in channels latches (Receive key) = receives_of (kept channels key.index key.generation)
line_in channels latches (Latch key) = waiting_of (kept latches key.index key.generation)
line_in channels latches Always = []

abbrev pub line_at : Table → Offer → List Waiting
line_at t = line_in t.channels.slots.items t.latches.slots.items

-- the promise is kept, and each offer of a sync that waits stands in its line
pub record IsSound (s : State) (at : Offer → List Waiting) : Type 0 where
  pub promise : Promise s
  pub lined : Lined s.places s.next at (length s.places) 0

abbrev pub Sound : Table → Type 0
Sound t = IsSound (state_of t) (line_at t)

-- a line changed, and nothing that a table shows
pub record SameBut (old new : Table) (offer : Offer) : Type 0 where
  pub state : state_of new ≡ state_of old
  pub lines : ChangesOnly (line_at old) (line_at new) offer

-- a sync came to wait in a place, and is to stand in the lines
pub record IsPlaced (old new : Table) (came : SyncKey) (offers : List Offer) : Type 0 where
  pub comes : Comes (state_of old) (state_of new) came offers
  pub unlisted : Lined (state_of new).places (state_of new).next (line_at new) came.index 0
  pub next : came.generation + 1 ≡ (state_of new).next

-- the sync that waits in the place was not there before, and nobody was; else the same wait
pub record Sits (old new : List (Option Sync)) (index : ℕ) (sync : Sync) : Type 0 where
  pub empty : (was : Sync) → ¬ WaitsAt old index was
  pub here : WaitsAt new index sync
  pub others : (i : ℕ) (other : Sync) → i ≢ index → WaitsAt new i other ↔ WaitsAt old i other

abbrev pub SameWait : List (Option Sync) → List (Option Sync) → Type 0
SameWait old new = (i : ℕ) (sync : Sync) → WaitsAt new i sync ↔ WaitsAt old i sync
