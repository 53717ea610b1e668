-- The rows of a chart, one for each commit that is shown, in their order.
use Rattle.std.specs.Prelude.{ℕ, ◌-◌, ◌==◌, ◌||◌, Bool, not, if◌then◌else◌, List, [], ◌++◌, codes, map, slice_get, slice_index, Option, Some, None}
use Rattle.std.specs.Fmt.{decimal}
use Rattle.protocol_values.specs.declared.Commit.{Commit}
use Rattle.protocol_values.specs.Commits.{stamp_of}
use Rattle.journal_text.specs.Names.{Naming}
use Rattle.pcml_chart.specs.Marks.{Stamps, mark}
use Rattle.pcml_chart.specs.Texts.{beginning, text_end}
use Rattle.pcml_chart_layout.specs.Places.{Layout, height, margin}

-- STAMPS

abbrev pub stamp_at : List Commit → ℕ → ℕ
stamp_at commits place = slice_index (map stamp_of commits) place

-- whether the commit at the place is the first of its stamp
abbrev pub is_first : List Commit → ℕ → Bool
is_first commits place = place == 0 || not (stamp_at commits (place - 1) == stamp_at commits place)

-- a line across the page
unfoldable pub border : ℕ → ℕ → List ℕ
border width y = codes "<path class='t' d='M0 " ++ decimal y ++ codes "H" ++ decimal width ++ codes "'/>\n"

-- the border between a stamp and the one before
abbrev pub border_above : ℕ → ℕ → List ℕ
border_above width place = if place == 0 then [] else border width (height place - 18)

-- the stamp at the left margin
abbrev pub stamp_text : ℕ → ℕ → List ℕ
stamp_text y stamp = beginning margin y ++ decimal stamp ++ text_end

-- the border and the stamp, at the first commit of each stamp
abbrev pub stamp_mark : ℕ → List Commit → ℕ → List ℕ
stamp_mark width commits place =
    if is_first commits place then border_above width place ++ stamp_text (height place) (stamp_at commits place) else []

-- THE WHOLE ROW

abbrev pub mark_at : Naming → Stamps → Layout → List Commit → ℕ → Option Commit → List ℕ
mark_at names stamps l commits y None = []
mark_at names stamps l commits y (Some c) = mark names stamps l commits y c

abbrev pub row : Naming → Stamps → Layout → List Commit → ℕ → List ℕ
row names stamps l commits place = stamp_mark l.width commits place ++ mark_at names stamps l commits (height place) (slice_get commits place)
