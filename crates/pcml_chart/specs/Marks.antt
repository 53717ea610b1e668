-- What is drawn for a commit.
use Rattle.std.specs.Prelude.{ℕ, ◌==◌, ◌&&◌, ◌||◌, if◌then◌else◌, List, [], ◌++◌, codes, position, Option, Some, None}
use Rattle.std.specs.Fmt.{decimal}
use Rattle.protocol_values.specs.declared.Cause.{Cause}
use Rattle.protocol_values.specs.declared.Cause.TheVariants as causes
use Rattle.protocol_values.specs.declared.Commit.{Commit}
use Rattle.protocol_values.specs.declared.Commit.TheVariants.{Pair, Alone}
use Rattle.protocol_values.specs.declared.NackName.{NackName}
use Rattle.protocol_values.specs.Commits.{stamp_of}
use Rattle.journal_replay.specs.Parts.{takes_part}
use Rattle.journal_text.specs.Names.{Naming}
use Rattle.pcml_chart_layout.specs.Labels.{label_text, spot_of}
use Rattle.pcml_chart_layout.specs.Places.{Layout, column, height_or_top, is_own, line_of}
use Rattle.pcml_chart.specs.Texts.{beginning, label, text_end}

unfoldable pub arrow : ℕ → ℕ → ℕ → List ℕ
arrow x other y = codes "<path class='a' d='M" ++ decimal x ++ codes " " ++ decimal y ++ codes "H" ++ decimal other ++ codes "'/>\n"

unfoldable pub dot : ℕ → ℕ → List ℕ
dot x y = codes "<circle r='4' cx='" ++ decimal x ++ codes "' cy='" ++ decimal y ++ codes "'/>\n"

unfoldable pub dashes : ℕ → ℕ → ℕ → ℕ → List ℕ
dashes x y other low = codes "<path class='n' d='M" ++ decimal x ++ codes " " ++ decimal y ++ codes "L" ++ decimal other ++ codes " " ++ decimal low ++ codes "'/>\n"

-- the stamps of the nacks that are enabled, and of the threads that ended
pub record Stamps : Type 0 where
  pub fired : NackName → Option ℕ
  pub ended : ℕ → Option ℕ

-- the place of the commit of this stamp in which the thread takes part
abbrev pub place_of : List Commit → ℕ → ℕ → Option ℕ
place_of commits t stamp = position (λ c. stamp_of c == stamp && takes_part t c) commits

-- the height of that commit, or the top where none is shown
abbrev pub height_of : List Commit → ℕ → ℕ → ℕ
height_of commits t stamp = height_or_top (place_of commits t stamp)

-- DASHED LINES

-- from the line of one thread to a mark on that of the other; none within the column of the others
abbrev pub dashes_to : Layout → ℕ → ℕ → ℕ → ℕ → List ℕ
dashes_to l t high at y = if is_own l.own t || is_own l.own at then dashes (line_of l t) high (line_of l at) y else []

-- from where the nack was enabled, on the line of its thread
abbrev pub nack_line : Layout → List Commit → NackName → Option ℕ → ℕ → ℕ → List ℕ
nack_line l commits n None at y = []
nack_line l commits n (Some stamp) at y = dashes_to l n.thread (height_of commits n.thread stamp) at y

-- from where the thread ended, on its line; none from a thread for whose end no commit counts
abbrev pub end_line : Layout → List Commit → ℕ → Option ℕ → ℕ → ℕ → List ℕ
end_line l commits t None at y = []
end_line l commits t (Some stamp) at y = if stamp == 0 then [] else dashes_to l t (height_of commits t stamp) at y

-- the dashed line of a commit alone by a nack or an end
abbrev pub cause_line : Stamps → Layout → List Commit → Cause → ℕ → ℕ → List ℕ
cause_line stamps l commits (causes.Always m) at y = []
cause_line stamps l commits (causes.Nack n) at y = nack_line l commits n (stamps.fired n) at y
cause_line stamps l commits (causes.End t) at y = end_line l commits t (stamps.ended t) at y

-- MARKS

-- an arrow, or a dot; to a commit alone goes the dashed line of its cause
abbrev pub figure : Stamps → Layout → List Commit → ℕ → Commit → List ℕ
figure stamps l commits y (Pair sender receiver chan msg stamp) =
    if column l.own sender.0.thread == column l.own receiver.0.thread then dot (line_of l sender.0.thread) y
    else arrow (line_of l sender.0.thread) (line_of l receiver.0.thread) y
figure stamps l commits y (Alone at cause stamp) = cause_line stamps l commits cause at.0.thread y ++ dot (line_of l at.0.thread) y

-- a text beside it
abbrev pub beside_mark : Layout → ℕ → Commit → List ℕ → List ℕ
beside_mark l y c text = beginning (spot_of l.own l.gaps c) y ++ label text ++ text_end

abbrev pub mark_label : Naming → Layout → ℕ → Commit → List ℕ
mark_label names l y c = beside_mark l y c (label_text names l.own c)

-- An arrow with the channel and the message, or a dot with its cause.
abbrev pub mark : Naming → Stamps → Layout → List Commit → ℕ → Commit → List ℕ
mark names stamps l commits y c = figure stamps l commits y c ++ mark_label names l y c
