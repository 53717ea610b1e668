-- A text that is long is cut, with the whole in a title.
use Rattle.std.specs.Prelude.{ℕ, ◌+◌, ◌-◌, if◌then◌else◌, List, [], ◌++◌, length, codes, nat_lt}
use Rattle.std.specs.Fmt.{decimal}
use Rattle.pcml_chart_layout.specs.Seen.{seen}
use Rattle.pcml_chart_layout.specs.declared.spot.Spot.{Spot}
use Rattle.pcml_chart_layout.specs.declared.spot.Spot.TheVariants.{Behind, Round}

unfoldable pub title : List ℕ → List ℕ
title whole = codes "<title>" ++ whole ++ codes "</title>"

-- the title stands last: a common renderer forgets the height of a line that begins with one
abbrev pub label : List ℕ → List ℕ
label text = seen text ++ (if nat_lt 40 (length text) then title text else [])

-- WHERE TEXTS STAND

-- a text round the place, and a text from the place on
unfoldable pub centered : ℕ → ℕ → List ℕ
centered x y = codes "<text x='" ++ decimal x ++ codes "' y='" ++ decimal y ++ codes "'>"

unfoldable pub starting : ℕ → ℕ → List ℕ
starting x y = codes "<text class='s' x='" ++ decimal x ++ codes "' y='" ++ decimal y ++ codes "'>"

unfoldable pub text_end : List ℕ
text_end = codes "</text>\n"

-- a text at a mark of this height: behind it, or round the place and above
abbrev pub beginning : Spot → ℕ → List ℕ
beginning (Behind x) y = starting x (y + 4)
beginning (Round x) y = centered x (y - 5)
