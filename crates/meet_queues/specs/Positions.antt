-- What is said of each element of a list and its place.
use Rattle.std.specs.Prelude.{◌≡◌, ℕ, List, Some, slice_get}

abbrev pub AllAt : {X : Type 0} → (ℕ → X → Type 0) → List X → Type 0
AllAt P xs = (n : ℕ) (x : _) → slice_get xs n ≡ Some x → P n x
