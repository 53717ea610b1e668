-- Places, some of which are in use.
use Rattle.std.specs.Prelude.{◌≡◌, ◌≢◌, ◌⊎◌, ◌&&◌, ℕ, Bool, true, false, List, [], ◌∷◌, ◌++◌, Option, Some, None, nat_eq, slice_get, slice_set}
use Rattle.engine.specs.declared.places.Slot.{Slot}

-- what is shown of a place: something if it is in use
abbrev pub only : {B : Type 0} → Bool → B → Option B
only true x = Some x
only false x = None

abbrev pub shown : {T B : Type 0} → (ℕ → T → B) → Slot T → Option B
shown f slot = only slot.used (f slot.generation slot.value)

-- whether this place is in use, and since this generation
abbrev pub is_since : {T : Type 0} → ℕ → Option (Slot T) → Bool
is_since generation None = false
is_since generation (Some slot) = slot.used && nat_eq slot.generation generation

abbrev pub holds : {T : Type 0} → List (Slot T) → ℕ → ℕ → Bool
holds slots index generation = is_since generation (slice_get slots index)

-- what is kept in this place since this generation
abbrev pub kept_since : {T : Type 0} → ℕ → Option (Slot T) → Option T
kept_since generation None = None
kept_since generation (Some slot) = only (slot.used && nat_eq slot.generation generation) slot.value

abbrev pub kept : {T : Type 0} → List (Slot T) → ℕ → ℕ → Option T
kept slots index generation = kept_since generation (slice_get slots index)

-- a place that is not in use
pub record IsFree {T : Type 0} (slots : List (Slot T)) (index : ℕ) : Type 0 where
  pub slot : Slot T
  pub at : slice_get slots index ≡ Some slot
  pub unused : slot.used ≡ false

-- a place was made that is not in use, or nothing changed
abbrev pub Grows : {T : Type 0} → List (Slot T) → List (Slot T) → Type 0
Grows {T} old new = (new ≡ old) ⊎ ((slot : Slot T) × (new ≡ old ++ slot ∷ []) × (slot.used ≡ false))

-- this place is in use now, since this generation, for what it held
pub record Begins {T : Type 0} (old new : List (Slot T)) (index generation : ℕ) : Type 0 where
  pub slot : Slot T
  pub is : new ≡ slice_set old index slot
  pub used : slot.used ≡ true
  pub since : slot.generation ≡ generation
  pub value : (before : Slot T) → slice_get old index ≡ Some before → slot.value ≡ before.value

-- this place is not in use now
pub record Empties {T : Type 0} (old new : List (Slot T)) (index : ℕ) : Type 0 where
  pub slot : Slot T
  pub is : new ≡ slice_set old index slot
  pub unused : slot.used ≡ false

-- a value was put into a place that was free
pub record Opens {T : Type 0} (old new : List (Slot T)) (index generation : ℕ) (value : T) : Type 0 where
  pub here : kept new index generation ≡ Some value
  pub others : (i g : ℕ) → (i ≡ index → g ≢ generation) → kept new i g ≡ kept old i g
