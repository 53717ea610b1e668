-- The feet of the lines of life: how each process stands, with what it printed or what it offers.
use Rattle.std.specs.Prelude.{ℕ, List, [], ◌++◌, codes, Option, Some, None}
use Rattle.std.specs.Fmt.{decimal}
use Rattle.std.specs.List.{flat_map}
use Rattle.protocol_values.specs.declared.Offer.{Offer}
use Rattle.journal_text.specs.Names.{Naming}
use Rattle.journal_text.specs.Offers.{offer_text}
use Rattle.pcml_chart_layout.specs.Feet.{offers_of, stand_text}
use Rattle.pcml_chart_layout.specs.declared.foot.Foot.{Foot}
use Rattle.pcml_chart.specs.Texts.{centered, label, text_end}

-- a line below
unfoldable pub line_start : ℕ → List ℕ
line_start x = codes "<tspan x='" ++ decimal x ++ codes "' dy='16'>"

unfoldable pub line_end : List ℕ
line_end = codes "</tspan>"

abbrev pub offer_line : Naming → ℕ → Offer → List ℕ
offer_line names x o = line_start x ++ label (offer_text names o.base) ++ line_end

abbrev pub foot_text : Naming → ℕ → ℕ → Foot → List ℕ
foot_text names x y f = centered x y ++ label (stand_text names f) ++ flat_map (offer_line names x) (offers_of f) ++ text_end

abbrev pub foot_at : Naming → ℕ → ℕ → Option Foot → List ℕ
foot_at names x y None = []
foot_at names x y (Some f) = foot_text names x y f
