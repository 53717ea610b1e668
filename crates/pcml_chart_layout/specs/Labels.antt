-- What stands beside a commit, and in which gap.
use Rattle.std.specs.Prelude.{ℕ, ◌==◌, not, Bool, false, if◌then◌else◌, List, [], ◌++◌, codes}
use Rattle.protocol_values.specs.declared.Commit.{Commit}
use Rattle.protocol_values.specs.declared.Commit.TheVariants.{Pair, Alone}
use Rattle.protocol_values.specs.declared.Message.{Message}
use Rattle.journal_text.specs.Names.{Naming}
use Rattle.journal_text.specs.Texts.{cause_text, message_text}
use Rattle.pcml_chart_layout.specs.Places.{beside, column, is_own, spot_in}
use Rattle.pcml_chart_layout.specs.declared.spot.Spot.{Spot}

-- what an arrow carries
abbrev pub sent_text : Naming → ℕ → Message → List ℕ
sent_text names chan msg = names.channel chan ++ codes " " ++ message_text names msg

-- whose mark it is, where the column does not tell it
abbrev pub whose : Naming → List Bool → ℕ → List ℕ
whose names own t = if is_own own t then [] else names.thread t ++ codes ": "

-- from whom to whom, where the columns do not tell it
abbrev pub parties : Naming → List Bool → ℕ → ℕ → List ℕ
parties names own one other =
    if column own one == column own other then names.thread one ++ codes "->" ++ names.thread other ++ codes " " else whose names own one ++ whose names own other

abbrev pub label_text : Naming → List Bool → Commit → List ℕ
label_text names own (Pair sender receiver chan msg stamp) = parties names own sender.0.thread receiver.0.thread ++ sent_text names chan msg
label_text names own (Alone at cause stamp) = whose names own at.0.thread ++ cause_text names cause

-- an arrow stands between two columns
abbrev pub is_arrow : List Bool → Commit → Bool
is_arrow own (Pair sender receiver chan msg stamp) = not (column own sender.0.thread == column own receiver.0.thread)
is_arrow own (Alone at cause stamp) = false

-- the gap in which the label stands
abbrev pub gap_of : List Bool → Commit → ℕ
gap_of own (Pair sender receiver chan msg stamp) = beside (column own sender.0.thread) (column own receiver.0.thread)
gap_of own (Alone at cause stamp) = column own at.0.thread

-- where it stands
abbrev pub spot_of : List Bool → List ℕ → Commit → Spot
spot_of own gaps c = spot_in gaps (gap_of own c) (is_arrow own c)
