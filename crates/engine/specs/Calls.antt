-- What the calls do.
use Rattle.std.specs.Prelude.{◌≡◌, ◌≢◌, ◌↔◌, ◌⊎◌, ◌<◌, ◌≤◌, ◌^◌, ℕ, Bool, true, false, List, Option, Some, None, length, slice_get, slice_set}
use Rattle.engine.specs.declared.offers.Offer.{Offer}
use Rattle.engine.specs.declared.offers.Offer.TheVariants as offer
use Rattle.engine.specs.declared.offers.ChannelKey.{ChannelKey}
use Rattle.engine.specs.declared.offers.LatchKey.{LatchKey}
use Rattle.engine.specs.declared.offers.SyncKey.{SyncKey}
use Rattle.engine.specs.declared.offers.Kind.{Kind}
use Rattle.engine.specs.declared.offers.Kind.TheVariants.{Partner, Latch, Always}
use Rattle.engine.specs.declared.offers.Answer.{Answer}
use Rattle.engine.specs.declared.offers.Answered.{Answered}
use Rattle.engine.specs.declared.offers.Entered.{Entered}
use Rattle.engine.specs.declared.offers.Entered.TheVariants.{Now, Waits as IsLeft}
use Rattle.engine.specs.declared.offers.Refusal.{Refusal}
use Rattle.engine.specs.declared.offers.Refusal.TheVariants.{Unknown, TooMany, Memory}
use Rattle.engine.specs.Offers.{Meets}
use Rattle.engine.specs.States.{State, Waits, Offers, AreKnown, IsFired, IsKnown, IsOpen, LatchIs, NobodyOffers, NoneReady, NotReady}

-- nothing was opened, closed or fired
pub record KeepsOpen (old new : State) : Type 0 where
  pub channels : new.channels ≡ old.channels
  pub latches : new.latches ≡ old.latches

-- The same syncs wait. Generations may have been passed over.
pub record Keeps (old new : State) : Type 0 where
  pub open_kept : KeepsOpen old new
  pub next : old.next ≤ new.next
  pub same : (key : SyncKey) (offers : List Offer) → Waits new key offers ↔ Waits old key offers

-- this sync waited, and waits no longer; else nothing changed
pub record Leaves (old new : State) (gone : SyncKey) : Type 0 where
  pub open_kept : KeepsOpen old new
  pub next : new.next ≡ old.next
  pub waited : (offers : List Offer) × Waits old gone offers
  pub goes : (offers : List Offer) → ¬ Waits new gone offers
  pub others : (key : SyncKey) (offers : List Offer) → key ≢ gone → Waits new key offers ↔ Waits old key offers

-- this sync, which is new, waits now with these offers; else nothing changed
pub record Comes (old new : State) (came : SyncKey) (offers : List Offer) : Type 0 where
  pub open_kept : KeepsOpen old new
  pub unused : old.next ≤ came.generation
  pub next : came.generation < new.next
  pub comes : Waits new came offers
  pub others : (key : SyncKey) (theirs : List Offer) → key ≢ came → Waits new key theirs ↔ Waits old key theirs

-- this channel, which is new, is open now; else nothing changed
pub record ChannelOpens (old new : State) (key : ChannelKey) : Type 0 where
  pub latches : new.latches ≡ old.latches
  pub places : new.places ≡ old.places
  pub unused : old.next ≤ key.generation
  pub next : key.generation < new.next
  pub opens : IsOpen new key
  pub others : (other : ChannelKey) → other ≢ key → IsOpen new other ↔ IsOpen old other

-- this channel was open, and is closed now; else nothing changed
pub record ChannelCloses (old new : State) (key : ChannelKey) : Type 0 where
  pub latches : new.latches ≡ old.latches
  pub places : new.places ≡ old.places
  pub next : new.next ≡ old.next
  pub was : IsOpen old key
  pub closes : ¬ IsOpen new key
  pub others : (other : ChannelKey) → other ≢ key → IsOpen new other ↔ IsOpen old other

-- this latch, which is new, is open now, and not fired; else nothing changed
pub record LatchOpens (old new : State) (key : LatchKey) : Type 0 where
  pub channels : new.channels ≡ old.channels
  pub places : new.places ≡ old.places
  pub unused : old.next ≤ key.generation
  pub next : key.generation < new.next
  pub opens : LatchIs new key false
  pub others : (other : LatchKey) (fired : Bool) → other ≢ key → LatchIs new other fired ↔ LatchIs old other fired

-- this latch was open, and is closed now; else nothing changed
pub record LatchCloses (old new : State) (key : LatchKey) : Type 0 where
  pub channels : new.channels ≡ old.channels
  pub places : new.places ≡ old.places
  pub next : new.next ≡ old.next
  pub was : IsKnown old (offer.Latch key)
  pub closes : ¬ IsKnown new (offer.Latch key)
  pub others : (other : LatchKey) (fired : Bool) → other ≢ key → LatchIs new other fired ↔ LatchIs old other fired

-- the state with this latch fired, or not
abbrev pub with_latch : State → LatchKey → Bool → State
with_latch s key fired = record s { latches = slice_set s.latches key.index (Some (record { generation = key.generation; fired = fired })) }

-- of those that wait with this offer, this sync came first; the offer is one of its
pub record IsOldest (s : State) (theirs : Offer) (sync : SyncKey) (other : ℕ) : Type 0 where
  pub offers : Offers s sync other theirs
  pub oldest : (key : SyncKey) (own : ℕ) → Offers s key own theirs → sync.generation ≤ key.generation

-- the oldest sync that waits with the other side of the offer leaves
pub record MeetsOldest (old new : State) (own : Offer) (sync : SyncKey) (other : ℕ) : Type 0 where
  pub theirs : Offer
  pub meets : Meets own theirs
  pub oldest : IsOldest old theirs sync other
  pub leaves : Leaves old new sync

-- this answers the offer
abbrev pub IsAnswered : State → State → Offer → Kind → Type 0
IsAnswered old new own (Partner sync other) = MeetsOldest old new own sync other
IsAnswered old new own Latch = (new ≡ old) × ((latch : LatchKey) × (own ≡ offer.Latch latch) × IsFired old latch)
IsAnswered old new own Always = (new ≡ old) × (own ≡ offer.Always)

-- this answers one of the offers
pub record Answers (old new : State) (offers : List Offer) (answer : Answer) : Type 0 where
  pub own : Offer
  pub at : slice_get offers answer.own ≡ Some own
  pub answered : IsAnswered old new own answer.kind

-- each offer is of what is open, and they are few enough
pub record AreTaken (s : State) (offers : List Offer) : Type 0 where
  pub known : AreKnown s offers
  pub few : length offers < 2 ^ 32

-- why offers are refused before any is tried
abbrev pub Refuses : State → List Offer → Refusal → Type 0
Refuses s offers Unknown = ¬ AreKnown s offers
Refuses s offers TooMany = AreKnown s offers × (2 ^ 32 ≤ length offers)
Refuses s offers Memory = ⊥

-- why a sync is not entered: its offers are refused and nothing changed, or there is no memory for it to wait
abbrev pub Declines : State → State → List Offer → Refusal → Type 0
Declines old new offers Unknown = (new ≡ old) × (¬ AreKnown old offers)
Declines old new offers TooMany = (new ≡ old) × AreKnown old offers × (2 ^ 32 ≤ length offers)
Declines old new offers Memory = Keeps old new × AreTaken old offers × NoneReady old offers

-- one of the offers is answered; or none can be, and the sync waits
abbrev pub Enters : State → State → List Offer → Entered → Type 0
Enters old new offers (Now answer) = Answers old new offers answer
Enters old new offers (IsLeft key) = NoneReady old offers × Comes old new key offers

-- one of the offers is answered; or none can be, and nothing changes
abbrev pub Polls : State → State → List Offer → Option Answer → Type 0
Polls old new offers None = (new ≡ old) × NoneReady old offers
Polls old new offers (Some answer) = Answers old new offers answer

-- this offer is answered; or it cannot be, and nothing changes
abbrev pub Tries : State → State → ℕ → Offer → Option Answer → Type 0
Tries old new own offer None = (new ≡ old) × NotReady old offer
Tries old new own offer (Some answer) = (answer.own ≡ own) × IsAnswered old new offer answer.kind

-- the oldest sync that waits with the offer leaves; or nobody waits with it, and nothing changes
abbrev pub Takes : State → State → Offer → Option Answered → Type 0
Takes old new theirs None = (new ≡ old) × NobodyOffers old theirs
Takes old new theirs (Some taken) = IsOldest old theirs taken.sync taken.own × Leaves old new taken.sync

-- the oldest sync that waits for the latch is answered; or nobody waits for it, and it is fired
abbrev pub Fires : State → State → LatchKey → Option Answered → Type 0
Fires old new latch None = (new ≡ with_latch old latch true) × NobodyOffers old (offer.Latch latch)
Fires old new latch (Some taken) = IsOldest old (offer.Latch latch) taken.sync taken.own × Leaves old new taken.sync

-- the oldest sync that waits to send on the channel is answered, or else the oldest that waits to receive; or nobody waits there,
-- and it is closed
abbrev pub ClosesChannel : State → State → ChannelKey → Option Answered → Type 0
ClosesChannel old new key None = ChannelCloses old new key × NobodyOffers old (offer.Send key) × NobodyOffers old (offer.Receive key)
ClosesChannel old new key (Some taken) =
    (IsOldest old (offer.Send key) taken.sync taken.own ⊎ (NobodyOffers old (offer.Send key) × IsOldest old (offer.Receive key) taken.sync taken.own)) × Leaves old new taken.sync

-- the oldest sync that waits for the latch is answered; or nobody waits for it, and it is closed
abbrev pub ClosesLatch : State → State → LatchKey → Option Answered → Type 0
ClosesLatch old new key None = LatchCloses old new key × NobodyOffers old (offer.Latch key)
ClosesLatch old new key (Some taken) = IsOldest old (offer.Latch key) taken.sync taken.own × Leaves old new taken.sync

-- the sync waited, and waits no longer; or it did not wait, and nothing changes
abbrev pub Withdraws : State → State → SyncKey → Bool → Type 0
Withdraws old new sync true = Leaves old new sync
Withdraws old new sync false = (new ≡ old) × ((offers : List Offer) → ¬ Waits old sync offers)

abbrev pub IsWaiting : State → SyncKey → Bool → Type 0
IsWaiting s sync true = (offers : List Offer) × Waits s sync offers
IsWaiting s sync false = (offers : List Offer) → ¬ Waits s sync offers
