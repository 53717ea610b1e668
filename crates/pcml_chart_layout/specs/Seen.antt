-- What is seen of a text that may be long.
use Rattle.std.specs.Prelude.{ℕ, ◌||◌, Bool, if◌then◌else◌, List, [], ◌++◌, take, length, codes, nat_le, nat_lt, slice_index}

-- whether a character begins at the place
abbrev pub begins : List ℕ → ℕ → Bool
begins text place = nat_lt (slice_index text place) 128 || nat_le 192 (slice_index text place)

-- what is left of a text that is cut
abbrev pub front : List ℕ → List ℕ
front text = if begins text 38 then take 38 text else []

-- what is seen of a text: the whole where it has at most 40 characters, or else 38 of them and two dots
abbrev pub seen : List ℕ → List ℕ
seen text = if nat_lt 40 (length text) then front text ++ codes ".." else text
