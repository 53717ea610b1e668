-- A chart: what its text is, and of which commits.
use Rattle.std.specs.Prelude.{◌≡◌, ◌+◌, ◌==◌, ℕ, zero, suc, Bool, true, false, if◌then◌else◌, List, [], ◌++◌, length, codes, nat_le, slice_get}
use Rattle.std.specs.Fmt.{decimal}
use Rattle.protocol_values.specs.declared.Commit.{Commit}
use Rattle.protocol_values.specs.declared.NackName.{NackName}
use Rattle.script.specs.Sources.{Script}
use Rattle.journal_text.specs.Names.{Naming, named}
use Rattle.journal_replay.specs.Replays.{TellsEnded, TellsFired}
use Rattle.journal_replay.specs.declared.state.State.{State}
use Rattle.pcml_chart_layout.specs.Feet.{AreFeet, lines_below}
use Rattle.pcml_chart_layout.specs.Places.{Layout, bottom, has_others, is_own, line_at, line_of, others_column, page_height}
use Rattle.pcml_chart_layout.specs.Widths.{gap_widths, page_width}
use Rattle.pcml_chart_layout.specs.declared.foot.Foot.{Foot}
use Rattle.pcml_chart.specs.Feet.{foot_at}
use Rattle.pcml_chart.specs.Marks.{Stamps}
use Rattle.pcml_chart.specs.Range.{IsEnd, greatest, shown}
use Rattle.pcml_chart.specs.Rows.{row}
use Rattle.pcml_chart.specs.Texts.{centered, label, starting, text_end}

-- what is drawn: the names, which processes have a column of their own, how each process stands, the stamps at which nacks were enabled and processes ended, the commits that
-- are shown of how many, and whether the range was cut
pub record Picture : Type 0 where
  pub names : Naming
  pub own : List Bool
  pub feet : List Foot
  pub stamps : Stamps
  pub commits : List Commit
  pub total : ℕ
  pub from : ℕ
  pub is_cut : Bool

-- THE FRAME

-- what is drawn for each number below n
abbrev pub each_below : ℕ → (ℕ → List ℕ) → List ℕ
each_below zero f = []
each_below (suc n) f = each_below n f ++ f n

unfoldable pub style : List ℕ
style =
    codes "<style>text{stroke:white;stroke-width:3px;paint-order:stroke}.s{text-anchor:start}path{stroke:black;fill:none}.t{stroke:#ccc}.n{stroke-dasharray:4 4}.a{marker-start:url(#tail);marker-end:url(#head)}</style>\n"

-- how an arrow begins
unfoldable pub arrow_tail : List ℕ
arrow_tail = codes "<defs><marker id='tail' viewBox='-4 -4 8 8' markerWidth='8' markerHeight='8'><circle r='2.5' fill='white' stroke='black'/></marker>"

-- and how it ends
unfoldable pub arrow_head : List ℕ
arrow_head = codes "<marker id='head' viewBox='0 0 9 8' refX='9' refY='4' markerWidth='9' markerHeight='8' orient='auto'><path d='M0 0L9 4L0 8z' style='fill:black;stroke:none'/></marker></defs>\n"

unfoldable pub background : List ℕ
background = codes "<rect width='100%' height='100%' fill='white'/>\n"

unfoldable pub page : ℕ → ℕ → List ℕ
page width tall =
    codes "<svg xmlns='http://www.w3.org/2000/svg' width='" ++ decimal width ++ codes "' height='" ++ decimal tall ++ codes "' viewBox='0 0 " ++ decimal width ++ codes " " ++ decimal tall
    ++ codes "' font-family='monospace' font-size='12' text-anchor='middle'>\n"

-- a page of this size
abbrev pub page_front : ℕ → ℕ → List ℕ
page_front width tall = page width tall ++ style ++ arrow_tail ++ arrow_head ++ background

abbrev pub front : ℕ → ℕ → ℕ → List ℕ
front width low lines = page_front width (page_height low lines)

-- THE HEADING

abbrev pub stamps_text : ℕ → ℕ → ℕ → List ℕ
stamps_text count from last = if count == 0 then [] else codes ", stamps " ++ decimal from ++ codes " to " ++ decimal last

abbrev pub cut_text : Bool → List ℕ
cut_text true = codes ", cut at 1250 commits"
cut_text false = []

-- how many commits are shown of how many, and which stamps
abbrev pub heading_text : ℕ → ℕ → ℕ → ℕ → Bool → List ℕ
heading_text count total from last is_cut =
    decimal count ++ codes " of " ++ decimal total ++ codes " commits" ++ stamps_text count from last ++ cut_text is_cut

abbrev pub heading_of : List ℕ → List ℕ
heading_of text = starting 8 18 ++ text ++ text_end

abbrev pub heading : Picture → List ℕ
heading p = heading_text (length p.commits) p.total p.from (greatest p.commits) p.is_cut

-- THE LINES OF LIFE

-- a line down from the top
unfoldable pub line : ℕ → ℕ → List ℕ
line x low = codes "<path d='M" ++ decimal x ++ codes " 52V" ++ decimal low ++ codes "'/>\n"

-- a name, and its line
abbrev pub life : List ℕ → ℕ → ℕ → List ℕ
life name x low = centered x 42 ++ label name ++ text_end ++ line x low

-- that of a process with a column of its own
abbrev pub lifeline : Naming → Layout → ℕ → ℕ → List ℕ
lifeline names l low t = if is_own l.own t then life (names.thread t) (line_of l t) low else []

-- that of the others
abbrev pub others_line : Layout → ℕ → List ℕ
others_line l low = if has_others l.own then life (codes "others") (line_at l.gaps (others_column l.own)) low else []

-- how the process stands, below its line
abbrev pub foot_mark : Naming → Layout → List Foot → ℕ → ℕ → List ℕ
foot_mark names l feet low t = if is_own l.own t then foot_at names (line_of l t) (low + 18) (slice_get feet t) else []

abbrev pub page_end : List ℕ
page_end = codes "</svg>\n"

-- THE WHOLE

abbrev pub gaps_of : Picture → List ℕ
gaps_of p = gap_widths p.names p.own p.feet p.commits

abbrev pub layout_of : Picture → Layout
layout_of p = record { own = p.own; gaps = gaps_of p; width = page_width p.own (gaps_of p) (length (heading p)) }

abbrev pub low_of : Picture → ℕ
low_of p = bottom (length p.commits)

abbrev pub lifelines : Naming → Layout → ℕ → List ℕ
lifelines names l low = each_below (length l.own) (lifeline names l low) ++ others_line l low

-- a row for each commit that is shown, in their order
abbrev pub marks : Naming → Stamps → Layout → List Commit → List ℕ
marks names stamps l commits = each_below (length commits) (row names stamps l commits)

abbrev pub feet_below : Naming → Layout → List Foot → ℕ → List ℕ
feet_below names l feet low = each_below (length l.own) (foot_mark names l feet low)

-- the picture in a layout
abbrev pub laid_out : Picture → Layout → List ℕ
laid_out p l =
    front l.width (low_of p) (lines_below p.own p.feet) ++ heading_of (heading p) ++ lifelines p.names l (low_of p) ++ marks p.names p.stamps l p.commits
    ++ feet_below p.names l p.feet (low_of p) ++ page_end

abbrev pub picture_text : Picture → List ℕ
picture_text p = laid_out p (layout_of p)

-- WHAT A CHART SHOWS

-- The text draws the commits with a stamp from `from` to `to`, or to an earlier one where they are too many, with the names of the
-- script, and how the processes stand where the state does; those have a column of their own that `own` tells.
pub record IsChart (s : Script) (state : State) (own : List Bool) (commits : List Commit) (from to : ℕ) (text : List ℕ) : Type 0 where
  pub below : ℕ
  pub range : IsEnd from to commits below
  pub feet : List Foot
  pub are_feet : AreFeet state feet
  pub stamps : Stamps
  pub tells_fired : (n : NackName) → TellsFired state n (stamps.fired n)
  pub tells_ended : (t : ℕ) → TellsEnded state t (stamps.ended t)
  pub is : text ≡ picture_text (record { names = named s; own = own; feet = feet; stamps = stamps; commits = shown from below commits; total = length commits; from = from; is_cut = nat_le below to })
