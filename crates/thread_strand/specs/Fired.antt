-- The nacks of a thread that are fired, by their numbers.
use Rattle.std.specs.Prelude.{ℕ, List, [], ◌∷◌, Option, Some, None, replicate, slice_set}

-- with each of these noted at its place, the last that is noted there
abbrev pub noted_in : List (Option ℕ) → List (ℕ × ℕ) → List (Option ℕ)
noted_in places [] = places
noted_in places (noted ∷ list) = noted_in (slice_set places noted.0 (Some noted.1)) list

-- a place for each number that a nack could have
abbrev pub places_of : List (ℕ × ℕ) → List (Option ℕ)
places_of list = noted_in (replicate 256 None) list
