-- Names at the ends of blocks of 32 bytes.
use Rattle.std.specs.Prelude.{◌≡◌, ℕ, ◌-◌, ◌≤◌, List, drop, length, Some, slice_get}

-- each name of at most 32 bytes stands at the end of its block
abbrev pub AreEnds : List (List ℕ) → List (List ℕ) → Type 0
AreEnds names blocks =
    (k : ℕ) (name block : List ℕ) → slice_get names k ≡ Some name → slice_get blocks k ≡ Some block → length name ≤ 32 → drop (32 - length name) block ≡ name
