-- The part of a ring that holds something.
use Rattle.std.specs.Prelude.{ℕ, List, ◌++◌, take, drop}

-- the n places from place k on, and behind the last place those from the first on
abbrev pub window : {X : Type 0} → ℕ → ℕ → List X → List X
window k n xs = take n (drop k xs ++ take k xs)
