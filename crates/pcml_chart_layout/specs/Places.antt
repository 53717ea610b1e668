-- Where things stand in a chart. The rows are 26 apart: each commit that is shown has a row of its own. The lines of life stand side by
-- side, with gaps between them.
use Rattle.std.specs.Prelude.{ℕ, ◌+◌, ◌-◌, ◌*◌, ◌/◌, Bool, false, List, take, get_or, length, min, nat_lt, if◌then◌else◌, Option, Some, None}
use Rattle.std.specs.List.{count_by, sum}
use Rattle.pcml_chart_layout.specs.declared.spot.Spot.{Spot}
use Rattle.pcml_chart_layout.specs.declared.spot.Spot.TheVariants.{Behind, Round}

-- COLUMNS

-- whether the process has a column of its own
abbrev pub is_own : List Bool → ℕ → Bool
is_own own t = get_or own t false

-- how many processes have
abbrev pub owners : List Bool → ℕ
owners own = count_by (λ b. b) own

-- whether there are others: those share one column, the last
abbrev pub has_others : List Bool → Bool
has_others own = nat_lt (owners own) (length own)

abbrev pub others_column : List Bool → ℕ
others_column own = owners own + 1

-- the column of a process, from 1 on
abbrev pub column : List Bool → ℕ → ℕ
column own t = if is_own own t then owners (take t own) + 1 else others_column own

-- how many columns there are
abbrev pub columns : List Bool → ℕ
columns own = if has_others own then owners own + 1 else owners own

-- LINES

-- Gap 0 begins at the left border of the page. Behind each gap stands the line of a column, and behind the last one the right border.
abbrev pub line_at : List ℕ → ℕ → ℕ
line_at gaps k = sum (take k gaps)

abbrev pub middle : List ℕ → ℕ → ℕ
middle gaps k = (line_at gaps k + line_at gaps (k + 1)) / 2

-- the gap beside a column, on the side of the other, or to the right of a lone one
abbrev pub beside : ℕ → ℕ → ℕ
beside k other = if nat_lt other k then k - 1 else k

-- which processes have columns, the widths of the gaps and that of the page
pub record Layout : Type 0 where
  pub own : List Bool
  pub gaps : List ℕ
  pub width : ℕ

-- the line of life of a process
abbrev pub line_of : Layout → ℕ → ℕ
line_of l t = line_at l.gaps (column l.own t)

-- where the label of a mark stands: round the middle of the arrow's gap, or behind the dot
abbrev pub spot_in : List ℕ → ℕ → Bool → Spot
spot_in gaps k is_arrow = if is_arrow then Round (middle gaps k) else Behind (line_at gaps k + 9)

-- where the stamps stand
abbrev pub margin : Spot
margin = Behind 8

-- HEIGHTS

-- the top of the lines of life
abbrev pub top : ℕ
top = 52

-- the height of a commit by its place among those that are shown
abbrev pub height : ℕ → ℕ
height place = 26 * place + 78

-- the same, or the top where there is no place
abbrev pub height_or_top : Option ℕ → ℕ
height_or_top None = top
height_or_top (Some place) = height place

-- the foot of the lines of life, below so many commits
abbrev pub bottom : ℕ → ℕ
bottom count = height count

-- so many lines stand below the foot of the lines of life; a sync has at most 8 offers
abbrev pub page_height : ℕ → ℕ → ℕ
page_height low lines = low + 32 + 16 * min lines 8
