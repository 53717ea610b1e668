-- Where a name is looked up: names whose bytes come to one slot are chained, from the last to the first.
use Rattle.std.specs.Prelude.{◌≡◌, ℕ, suc, zero, ◌+◌, ◌*◌, ◌/◌, ◌%◌, ◌^◌, ◌<◌, List, [], ◌∷◌, length, get_or, ◌==◌, if◌then◌else◌}

-- the hash with one more byte
abbrev pub hash_step : ℕ → ℕ → ℕ
hash_step hash byte = ((hash * 8) % 2 ^ 64 + byte) % 2 ^ 64

unfoldable pub hash_from : ℕ → List ℕ → ℕ
hash_from hash [] = hash
hash_from hash (byte ∷ text) = hash_from (hash_step hash byte) text

abbrev pub hash_of : List ℕ → ℕ
hash_of text = hash_from 0 text

-- one of 1,024 slots
unfoldable pub slot_at : ℕ → ℕ
slot_at hash = (hash * 11400714819323198485) % 2 ^ 64 / 2 ^ 54

abbrev pub slot_of : List ℕ → ℕ
slot_of text = slot_at (hash_of text)

-- the number of the last of the first n names in the slot, counted from 1, or 0 where none is in it
unfoldable pub last_in : ℕ → List (List ℕ) → ℕ → ℕ
last_in slot names zero = 0
last_in slot names (suc n) = if slot_of (get_or names n []) == slot then suc n else last_in slot names n

-- the last name of each slot
pub record AreHeads (names : List (List ℕ)) (n : ℕ) (heads : List ℕ) : Type 0 where
  pub count : length heads ≡ 1024
  pub each : (slot : ℕ) → slot < 1024 → get_or heads slot 0 ≡ last_in slot names n

-- of each name the one before it in its slot
pub record AreLinks (names : List (List ℕ)) (n : ℕ) (links : List ℕ) : Type 0 where
  pub count : length links ≡ n
  pub each : (k : ℕ) → k < n → get_or links k 0 ≡ last_in (slot_of (get_or names k [])) names k

-- no two names are the same
abbrev pub AreApart : List (List ℕ) → Type 0
AreApart names = (j k : ℕ) → j < length names → k < length names → get_or names j [] ≡ get_or names k [] → j ≡ k
