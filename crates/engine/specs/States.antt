-- What an engine knows, and what it promises.
use Rattle.std.specs.Prelude.{◌≡◌, ◌≢◌, ◌<◌, ℕ, Bool, true, List, Option, Some, slice_get, ⊤}
use Rattle.engine.specs.declared.offers.ChannelKey.{ChannelKey}
use Rattle.engine.specs.declared.offers.LatchKey.{LatchKey}
use Rattle.engine.specs.declared.offers.Offer.{Offer}
use Rattle.engine.specs.declared.offers.Offer.TheVariants.{Send, Receive, Latch, Always}
use Rattle.engine.specs.declared.offers.SyncKey.{SyncKey}
use Rattle.engine.specs.Offers.{Meets}

-- a sync that waits
pub record Sync : Type 0 where
  pub generation : ℕ
  pub offers : List Offer

-- a latch that is open
pub record LatchState : Type 0 where
  pub generation : ℕ
  pub fired : Bool

pub record State : Type 0 where
  -- at each place the generation of the channel that is open there
  pub channels : List (Option ℕ)
  -- at each place the latch that is open there
  pub latches : List (Option LatchState)
  -- at each place the sync that waits there
  pub places : List (Option Sync)
  -- what is opened or comes to wait gets this generation or a later one
  pub next : ℕ

-- this sync waits, with these offers
abbrev pub Waits : State → SyncKey → List Offer → Type 0
Waits s key offers = slice_get s.places key.index ≡ Some (Some (record { generation = key.generation; offers = offers }))

-- this sync waits, and one of its offers is this
pub record Offers (s : State) (key : SyncKey) (own : ℕ) (offer : Offer) : Type 0 where
  pub offers : List Offer
  pub waits : Waits s key offers
  pub at : slice_get offers own ≡ Some offer

-- this channel is open
abbrev pub IsOpen : State → ChannelKey → Type 0
IsOpen s key = slice_get s.channels key.index ≡ Some (Some key.generation)

-- this latch is open, and fired or not
abbrev pub LatchIs : State → LatchKey → Bool → Type 0
LatchIs s key fired = slice_get s.latches key.index ≡ Some (Some (record { generation = key.generation; fired = fired }))

-- the channel is open, or the latch
abbrev pub IsKnown : State → Offer → Type 0
IsKnown s (Send channel) = IsOpen s channel
IsKnown s (Receive channel) = IsOpen s channel
IsKnown s (Latch latch) = (fired : Bool) × LatchIs s latch fired
IsKnown s Always = ⊤

abbrev pub AreKnown : State → List Offer → Type 0
AreKnown s offers = (own : ℕ) (offer : Offer) → slice_get offers own ≡ Some offer → IsKnown s offer

abbrev pub IsFired : State → LatchKey → Type 0
IsFired s latch = LatchIs s latch true

-- nobody waits with this offer
abbrev pub NobodyOffers : State → Offer → Type 0
NobodyOffers s offer = (key : SyncKey) (own : ℕ) → ¬ Offers s key own offer

-- Nothing answers this offer now: it needs somebody, its latch is not fired, and nobody waits who would meet it.
pub record NotReady (s : State) (offer : Offer) : Type 0 where
  pub needs : offer ≢ Always
  pub unfired : (latch : LatchKey) → offer ≡ Latch latch → ¬ IsFired s latch
  pub nobody : (theirs : Offer) → Meets offer theirs → NobodyOffers s theirs

abbrev pub NoneReady : State → List Offer → Type 0
NoneReady s offers = (own : ℕ) (offer : Offer) → slice_get offers own ≡ Some offer → NotReady s offer

-- THE PROMISE. Nobody who could go on is left waiting: no offer of a sync that waits is met by another's, is of a latch that is
-- fired, or needs nothing. Each is of what is open. No two came to wait at once, and nothing that is to come gets a generation
-- that was given.
pub record Promise (s : State) : Type 0 where
  pub apart : (one other : SyncKey) (i j : ℕ) (a b : Offer) → one ≢ other → Offers s one i a → Offers s other j b → ¬ Meets a b
  pub needs : (key : SyncKey) (own : ℕ) → ¬ Offers s key own Always
  pub unfired : (key : SyncKey) (own : ℕ) (latch : LatchKey) → Offers s key own (Latch latch) → ¬ IsFired s latch
  pub known : (key : SyncKey) (own : ℕ) (offer : Offer) → Offers s key own offer → IsKnown s offer
  pub ages : (one other : SyncKey) (offers theirs : List Offer) → Waits s one offers → Waits s other theirs → one.generation ≡ other.generation → one ≡ other
  pub given : (key : SyncKey) (offers : List Offer) → Waits s key offers → key.generation < s.next
  pub channels_given : (key : ChannelKey) → IsOpen s key → key.generation < s.next
  pub latches_given : (key : LatchKey) (fired : Bool) → LatchIs s key fired → key.generation < s.next
