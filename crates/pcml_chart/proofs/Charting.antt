-- What a chart shows, from the parts of its picture.
use Rattle.std.proofs.Common.{◌≡◌, ℕ, Bool, List, length, ap, ◌∙◌}
use Rattle.std.specs.Prelude.{nat_le}
use Rattle.protocol_values.specs.declared.Commit.{Commit}
use Rattle.script.specs.Sources.{Script}
use Rattle.journal_replay.specs.declared.state.State.{State}
use Rattle.journal_replay.proofs.Nacks.{tells-ended, tells-fired}
use Rattle.pcml_chart.specs.Chart.{IsChart, Picture, picture_text}
use Rattle.pcml_chart_layout.specs.Feet.{AreFeet}
use Rattle.pcml_chart.specs.Drawn.{stamps_of}
use Rattle.pcml_chart.specs.Range.{IsEnd, shown}
use Rattle.pcml_chart_layout.specs.declared.foot.Foot.{Foot}
use Rattle.journal_text.specs.Names.{named}

-- the picture of a state
abbrev pub drawn : Script → State → List Bool → List Commit → ℕ → ℕ → List Foot → List Commit → ℕ → Picture
drawn s state own commits from below feet found to =
    record { names = named s; own = own; feet = feet; stamps = stamps_of state; commits = found; total = length commits; from = from; is_cut = nat_le below to }

pub is_chart : (s : Script) (state : State) (own : List Bool) (commits : List Commit) (from to below : ℕ) (feet seen : List Foot) (found kept : List Commit) (last : ℕ) (text : List ℕ) → IsEnd from to commits below → AreFeet state feet
    → kept ≡ shown from below commits → seen ≡ feet → found ≡ kept → last ≡ to → text ≡ picture_text (drawn s state own commits from below seen found last) → IsChart s state own commits from to text
is_chart s state own commits from to below feet seen found kept last text range tells of_range same_feet same_found same_last is = record {
  below = below;
  range = range;
  feet = feet;
  are_feet = tells;
  stamps = stamps_of state;
  tells_fired = tells-fired state;
  tells_ended = tells-ended state;
  is = is ∙ ap (λ (z : List Foot × List Commit × ℕ). picture_text (drawn s state own commits from below z.0 z.1 z.2)) (λ i. (same_feet i, (same_found ∙ of_range) i, same_last i));
}
