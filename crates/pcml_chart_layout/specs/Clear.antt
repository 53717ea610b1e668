-- No text of a chart crosses a line of life.
use Rattle.std.specs.Prelude.{◌≡◌, ◌+◌, ◌-◌, ◌*◌, ◌<◌, ℕ, Bool, true, List, length, codes, slice_get, Some}
use Rattle.std.specs.Fmt.{decimal}
use Rattle.protocol_values.specs.declared.Commit.{Commit}
use Rattle.protocol_values.specs.declared.Offer.{Offer}
use Rattle.protocol_values.specs.Commits.{stamp_of}
use Rattle.journal_text.specs.Names.{Naming}
use Rattle.journal_text.specs.Offers.{offer_text}
use Rattle.pcml_chart_layout.specs.Feet.{offers_of, stand_text}
use Rattle.pcml_chart_layout.specs.Seen.{seen}
use Rattle.pcml_chart_layout.specs.Labels.{gap_of, label_text, spot_of}
use Rattle.pcml_chart_layout.specs.Places.{column, has_others, is_own, line_at, margin, others_column}
use Rattle.pcml_chart_layout.specs.Widths.{gap_widths}
use Rattle.pcml_chart_layout.specs.declared.foot.Foot.{Foot}
use Rattle.pcml_chart_layout.specs.declared.spot.Spot.{Spot}
use Rattle.pcml_chart_layout.specs.declared.spot.Spot.TheVariants.{Behind, Round}

-- what a chart tells: the names, which processes have a column of their own, how each process stands, and the commits that are shown
pub record Content : Type 0 where
  pub names : Naming
  pub own : List Bool
  pub feet : List Foot
  pub commits : List Commit

abbrev pub gaps_of : Content → List ℕ
gaps_of p = gap_widths p.names p.own p.feet p.commits

-- a text at the spot, with 8 for each character, stands between the two places
abbrev pub IsBetween : ℕ → ℕ → Spot → List ℕ → Type 0
IsBetween low high (Behind x) text = (low < x) × (x + 8 * length text < high)
IsBetween low high (Round x) text = (low + 4 * length text < x) × (x + 4 * length text < high)

-- what is seen of a text round the line of a column stands between the lines, or borders, beside that line
abbrev pub IsRound : Content → ℕ → List ℕ → Type 0
IsRound p k text = IsBetween (line_at (gaps_of p) (k - 1)) (line_at (gaps_of p) (k + 1)) (Round (line_at (gaps_of p) k)) (seen text)

-- LAWS

-- a stamp stands before the first line
abbrev pub StampsAreClear : Type 0
StampsAreClear = (p : Content) (j : ℕ) (c : Commit) → slice_get p.commits j ≡ Some c → IsBetween 0 (line_at (gaps_of p) 1) margin (decimal (stamp_of c))

-- the label of a commit stands between the two lines of its gap
abbrev pub LabelsAreClear : Type 0
LabelsAreClear =
    (p : Content) (j : ℕ) (c : Commit) → slice_get p.commits j ≡ Some c
    → IsBetween (line_at (gaps_of p) (gap_of p.own c)) (line_at (gaps_of p) (gap_of p.own c + 1)) (spot_of p.own (gaps_of p) c) (seen (label_text p.names p.own c))

abbrev pub NamesAreClear : Type 0
NamesAreClear = (p : Content) (t : ℕ) → is_own p.own t ≡ true → IsRound p (column p.own t) (p.names.thread t)

abbrev pub OthersAreClear : Type 0
OthersAreClear = (p : Content) → has_others p.own ≡ true → IsRound p (others_column p.own) (codes "others")

abbrev pub StandsAreClear : Type 0
StandsAreClear = (p : Content) (t : ℕ) (f : Foot) → slice_get p.feet t ≡ Some f → is_own p.own t ≡ true → IsRound p (column p.own t) (stand_text p.names f)

abbrev pub OffersAreClear : Type 0
OffersAreClear =
    (p : Content) (t : ℕ) (f : Foot) → slice_get p.feet t ≡ Some f → is_own p.own t ≡ true
    → (i : ℕ) (o : Offer) → slice_get (offers_of f) i ≡ Some o → IsRound p (column p.own t) (offer_text p.names o.base)
