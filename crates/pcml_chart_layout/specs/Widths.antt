-- How wide the gaps are: as the labels in them need, and not more. A character takes 8.
use Rattle.std.specs.Prelude.{◌≡◌, ℕ, ◌+◌, ◌*◌, ◌==◌, max, min, Bool, if◌then◌else◌, List, length, get_or, map, slice_get, Option, Some, None}
use Rattle.std.specs.Fmt.{decimal}
use Rattle.std.specs.List.{range_with_len}
use Rattle.protocol_values.specs.declared.Commit.{Commit}
use Rattle.protocol_values.specs.Commits.{stamp_of}
use Rattle.journal_text.specs.Names.{Naming}
use Rattle.journal_text.specs.Offers.{offer_text}
use Rattle.pcml_chart_layout.specs.Feet.{offers_of, stand_text}
use Rattle.pcml_chart_layout.specs.Seen.{seen}
use Rattle.pcml_chart_layout.specs.Labels.{gap_of, label_text}
use Rattle.pcml_chart_layout.specs.Places.{column, columns, has_others, is_own, line_at, others_column, owners}
use Rattle.pcml_chart_layout.specs.Most.{most_below, most_by}
use Rattle.pcml_chart_layout.specs.declared.foot.Foot.{Foot}

-- the number where it is that of this place
abbrev pub if_at : ℕ → ℕ → ℕ → ℕ
if_at k place n = if k == place then n else 0

-- afterwards the greater of both numbers stands at each place; behind the end of a list stands 0
abbrev pub Raises : (ℕ → ℕ) → List ℕ → List ℕ → Type 0
Raises f before after = (k : ℕ) → get_or after k 0 ≡ max (f k) (get_or before k 0)

-- these numbers stand in the list
abbrev pub Lists : (ℕ → ℕ) → List ℕ → Type 0
Lists f xs = (k : ℕ) → get_or xs k 0 ≡ f k

-- THE LABELS IN A GAP

-- the length of what a commit has there: its stamp in the first, its label in another
abbrev pub commit_length : Naming → List Bool → ℕ → Commit → ℕ
commit_length names own k c = max (if_at k (gap_of own c) (length (seen (label_text names own c)))) (if_at k 0 (length (decimal (stamp_of c))))

abbrev pub longest_in : Naming → List Bool → List Commit → ℕ → ℕ
longest_in names own commits k = most_by (commit_length names own k) commits

-- THE TEXTS ROUND A LINE

abbrev pub foot_length : Naming → Foot → ℕ
foot_length names f = max (length (seen (stand_text names f))) (most_by (λ o. length (seen (offer_text names o.base))) (offers_of f))

abbrev pub foot_length_at : Naming → Option Foot → ℕ
foot_length_at names None = 0
foot_length_at names (Some f) = foot_length names f

abbrev pub name_and_foot_length : Naming → List Foot → ℕ → ℕ
name_and_foot_length names feet t = max (length (seen (names.thread t))) (foot_length_at names (slice_get feet t))

-- the length of what a process has round the line of a column: its name and its foot
abbrev pub process_length : Naming → List Bool → List Foot → ℕ → ℕ → ℕ
process_length names own feet k t = if is_own own t then if_at k (column own t) (name_and_foot_length names feet t) else 0

-- `others` has 6 characters
abbrev pub others_length : List Bool → ℕ → ℕ
others_length own k = if has_others own then if_at k (others_column own) 6 else 0

abbrev pub longest_round : Naming → List Bool → List Foot → ℕ → ℕ
longest_round names own feet k = max (others_length own k) (most_below (length own) (process_length names own feet k))

-- THE WIDTHS

-- a gap with labels so long in it, between lines with texts so long round them
abbrev pub room : ℕ → ℕ → ℕ → ℕ
room label left right = max 40 (max (8 * label + 18) (4 * (left + right) + 16))

abbrev pub gap_width : Naming → List Bool → List Foot → List Commit → ℕ → ℕ
gap_width names own feet commits k = room (longest_in names own commits k) (longest_round names own feet k) (longest_round names own feet (k + 1))

-- beside each column, and one more to the right
abbrev pub gap_widths : Naming → List Bool → List Foot → List Commit → List ℕ
gap_widths names own feet commits = map (gap_width names own feet commits) (range_with_len 0 (owners own + 2))

-- to the right border, or as the heading needs, which has 107 characters at most
abbrev pub page_width : List Bool → List ℕ → ℕ → ℕ
page_width own gaps heading = max (line_at gaps (columns own + 1)) (8 * min heading 107 + 16)
