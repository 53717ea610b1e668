-- The layout that the code holds.
use Rattle.std.specs.Prelude.{◌≡◌, ℕ, Bool, List, length, map}
use Rattle.std.specs.String.{string_bytes}
use Rattle.protocol_values.specs.declared.Commit.{Commit}
use Rattle.journal_text.specs.Names.{Naming}
use Rattle.pcml_chart_layout.specs.Feet.{lines_below}
use Rattle.pcml_chart_layout.specs.Labels.{label_text}
use Rattle.pcml_chart_layout.specs.Places.{Layout, bottom, page_height}
use Rattle.pcml_chart_layout.specs.Widths.{gap_widths, page_width}
use Rattle.pcml_chart_layout.specs.declared.foot.Foot.{Foot}
use Rattle.pcml_chart_layout.specs.declared.columns.Columns.{Columns}
use Rattle.pcml_chart_layout.specs.declared.layout.Layout as code

-- which processes have a column of their own
abbrev pub own_of : Columns → List Bool
own_of c = c.own.now

abbrev pub laid : code.Layout → Layout
laid l = record { own = l.columns.own.now; gaps = l.lines.gaps.items; width = l.width }

-- the labels of the commits
abbrev pub written : code.Layout → List (List ℕ)
written l = map string_bytes l.labels.items

-- the height of the page
abbrev pub tall : code.Layout → ℕ
tall l = l.height

-- these are the labels of the commits
abbrev pub AreLabels : Naming → List Bool → List Commit → List (List ℕ) → Type 0
AreLabels names own commits labels = labels ≡ map (label_text names own) commits

-- The layout has gaps as wide as the texts in them need, a label for each commit, and a page of the size that they, the feet and a
-- heading so long need.
pub record IsLaid (names : Naming) (own : List Bool) (feet : List Foot) (commits : List Commit) (heading : ℕ) (l : code.Layout) : Type 0 where
  pub places : laid l ≡ record { own = own; gaps = gap_widths names own feet commits; width = page_width own (gap_widths names own feet commits) heading }
  pub labels : AreLabels names own commits (written l)
  pub height : tall l ≡ page_height (bottom (length commits)) (lines_below own feet)
