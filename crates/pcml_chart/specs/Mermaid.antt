-- The same chart as the text of a Mermaid sequence diagram.
use Rattle.std.specs.Prelude.{◌≡◌, ◌==◌, ℕ, Bool, if◌then◌else◌, List, [], ◌∷◌, ◌++◌, length, codes, nat_le, slice_get, Option, Some, None}
use Rattle.std.specs.Fmt.{decimal}
use Rattle.std.specs.List.{flat_map}
use Rattle.protocol_values.specs.declared.Commit.{Commit}
use Rattle.protocol_values.specs.declared.Commit.TheVariants.{Pair, Alone}
use Rattle.protocol_values.specs.declared.Offer.{Offer}
use Rattle.script.specs.Sources.{Script}
use Rattle.journal_text.specs.Names.{Naming, named}
use Rattle.journal_replay.specs.declared.state.State.{State}
use Rattle.journal_text.specs.Offers.{offer_text}
use Rattle.pcml_chart_layout.specs.Feet.{AreFeet, offers_of, stand_text}
use Rattle.pcml_chart_layout.specs.Labels.{label_text}
use Rattle.pcml_chart_layout.specs.Places.{column, has_others, is_own, others_column}
use Rattle.pcml_chart_layout.specs.declared.foot.Foot.{Foot}
use Rattle.pcml_chart.specs.Chart.{each_below, heading_text}
use Rattle.pcml_chart.specs.Range.{IsEnd, greatest, shown}

-- A byte of a text. Behind `#` Mermaid reads a comment or a sign by its number, and behind `nowrap:` how the text is to be laid: both marks
-- stand there by their numbers.
abbrev pub escape : ℕ → List ℕ
escape b = if b == 35 then codes "#35;" else if b == 58 then codes "#58;" else b ∷ []

abbrev pub escaped : List ℕ → List ℕ
escaped text = flat_map escape text

-- THE FRAME

unfoldable pub title : List ℕ → List ℕ
title words = codes "sequenceDiagram\n  title " ++ words ++ codes "\n"

abbrev pub line_end : List ℕ
line_end = codes "\n"

unfoldable pub column_start : ℕ → List ℕ
column_start place = codes "  participant P" ++ decimal place ++ codes " as "

-- a column and what it is called
abbrev pub participant : ℕ → List ℕ → List ℕ
participant place name = column_start place ++ name ++ line_end

abbrev pub participant_of : Naming → List Bool → ℕ → List ℕ
participant_of names own t = if is_own own t then participant (column own t) (names.thread t) else []

abbrev pub others : List Bool → List ℕ
others own = if has_others own then participant (others_column own) (codes "others") else []

-- one for each process with a column of its own, in their order, and for the others
abbrev pub participants : Naming → List Bool → List ℕ
participants names own = each_below (length own) (participant_of names own) ++ others own

-- COMMITS

-- how a note at a column begins, and an arrow from one to another
unfoldable pub note : ℕ → List ℕ
note place = codes "  Note over P" ++ decimal place ++ codes ": "

unfoldable pub arrow : ℕ → ℕ → List ℕ
arrow place other = codes "  P" ++ decimal place ++ codes "->>P" ++ decimal other ++ codes ": "

abbrev pub beginning : List Bool → Commit → List ℕ
beginning own (Pair sender receiver chan msg stamp) =
    if column own sender.0.thread == column own receiver.0.thread then note (column own sender.0.thread)
    else arrow (column own sender.0.thread) (column own receiver.0.thread)
beginning own (Alone at cause stamp) = note (column own at.0.thread)

-- An arrow with the channel and the message, or a note with the cause.
abbrev pub commit_line : Naming → List Bool → Commit → List ℕ
commit_line names own c = beginning own c ++ escaped (label_text names own c) ++ line_end

-- HOW EACH PROCESS STANDS

-- a line below
abbrev pub offer_line : Naming → Offer → List ℕ
offer_line names o = codes "<br/>" ++ escaped (offer_text names o.base)

abbrev pub foot_note : Naming → ℕ → Foot → List ℕ
foot_note names place f = note place ++ escaped (stand_text names f) ++ flat_map (offer_line names) (offers_of f) ++ line_end

abbrev pub note_at : Naming → ℕ → Option Foot → List ℕ
note_at names place None = []
note_at names place (Some f) = foot_note names place f

abbrev pub foot_of : Naming → List Bool → List Foot → ℕ → List ℕ
foot_of names own feet t = if is_own own t then note_at names (column own t) (slice_get feet t) else []

-- THE WHOLE

-- a line for each commit, in their order, and a note for each process with a column of its own
abbrev pub diagram : Naming → List Bool → List Foot → List Commit → List ℕ → List ℕ
diagram names own feet commits words = title words ++ participants names own ++ flat_map (commit_line names own) commits ++ each_below (length own) (foot_of names own feet)

-- how many are shown of how many, and which stamps
abbrev pub words_of : ℕ → ℕ → ℕ → List Commit → List ℕ
words_of from to below commits = heading_text (length (shown from below commits)) (length commits) from (greatest (shown from below commits)) (nat_le below to)

-- The text shows what `IsChart` says of a picture: the commits in the range, between those columns, and how the processes stand.
pub record IsMermaid (s : Script) (state : State) (own : List Bool) (commits : List Commit) (from to : ℕ) (text : List ℕ) : Type 0 where
  pub below : ℕ
  pub range : IsEnd from to commits below
  pub feet : List Foot
  pub are_feet : AreFeet state feet
  pub is : text ≡ diagram (named s) own feet (shown from below commits) (words_of from to below commits)
