-- The lines of those who wait.
use Rattle.std.specs.Prelude.{◌≡◌, ◌≢◌, ◌≤◌, ◌<◌, ℕ, Bool, true, false, List, [], ◌∷◌, ◌++◌, Option, Some, None, nat_eq, slice_get, ⊤}
use Rattle.channels.specs.declared.waiting.Waiting.{Waiting}
use Rattle.channels.specs.Lines.{IsIn}
use Rattle.engine.specs.declared.offers.Offer.{Offer}
use Rattle.engine.specs.States.{Sync}

-- whether this sync waits in that place
abbrev pub is_its : Option (Option Sync) → ℕ → Bool
is_its None generation = false
is_its (Some None) generation = false
is_its (Some (Some sync)) generation = nat_eq sync.generation generation

-- whether the sync of which somebody stands in a line waits
abbrev pub lives : List (Option Sync) → Waiting → Bool
lives places w = is_its (slice_get places w.who.place) w.ticket

-- none is older than the one before it
abbrev pub IsOrdered : ℕ → List Waiting → Type 0
IsOrdered low [] = ⊤
IsOrdered low (x ∷ xs) = (low ≤ x.ticket) × IsOrdered x.ticket xs

-- some were dropped, of syncs that do not wait
pub record Sifts (places : List (Option Sync)) (old new : List Waiting) : Type 0 where
  pub from : (w : Waiting) → IsIn new w → IsIn old w
  pub live : (w : Waiting) → IsIn old w → lives places w ≡ true → IsIn new w
  pub order : (low : ℕ) → IsOrdered low old → IsOrdered low new

-- the first of a sync that waits was taken, and those before it
pub record IsFirstLive (places : List (Option Sync)) (old new : List Waiting) (w : Waiting) : Type 0 where
  pub dead : List Waiting
  pub parts : old ≡ dead ++ w ∷ new
  pub all_dead : (x : Waiting) → IsIn dead x → lives places x ≡ false
  pub live : lives places w ≡ true

abbrev pub Pops : List (Option Sync) → List Waiting → List Waiting → Option Waiting → Type 0
Pops places old new None = (new ≡ []) × ((x : Waiting) → IsIn old x → lives places x ≡ false)
Pops places old new (Some w) = IsFirstLive places old new w

-- somebody was added behind all
pub record Adds (places : List (Option Sync)) (old new : List Waiting) (w : Waiting) : Type 0 where
  pub left : List Waiting
  pub sifts : Sifts places old left
  pub parts : new ≡ left ++ w ∷ []

-- the sync that waits in this place
abbrev pub WaitsAt : List (Option Sync) → ℕ → Sync → Type 0
WaitsAt places index sync = slice_get places index ≡ Some (Some sync)

-- a sync waits in this place, and this is one of its offers
pub record OffersAt (places : List (Option Sync)) (index own : ℕ) (offer : Offer) (generation : ℕ) : Type 0 where
  pub offers : List Offer
  pub waits : WaitsAt places index (record { generation = generation; offers = offers })
  pub at : slice_get offers own ≡ Some offer

-- only the line of this offer changed
abbrev pub ChangesOnly : (Offer → List Waiting) → (Offer → List Waiting) → Offer → Type 0
ChangesOnly old new offer = (o : Offer) → o ≢ offer → new o ≡ old o

-- Of each sync that waits, each offer stands in its line, but for those of the sync in this place from this offer on. Who stands in a
-- line and is of a sync that waits is right there. In each line the oldest stand first, and each is older than those to come.
pub record Lined (places : List (Option Sync)) (next : ℕ) (at : Offer → List Waiting) (index from : ℕ) : Type 0 where
  pub listed : (i own g : ℕ) (o : Offer) → OffersAt places i own o g → (i ≡ index → own < from) → IsIn (at o) (record { ticket = g; who = record { place = i; own = own } })
  pub right : (o : Offer) (w : Waiting) → IsIn (at o) w → lives places w ≡ true → OffersAt places w.who.place w.who.own o w.ticket
  pub ordered : (o : Offer) → IsOrdered 0 (at o)
  pub older : (o : Offer) (w : Waiting) → IsIn (at o) w → w.ticket < next
