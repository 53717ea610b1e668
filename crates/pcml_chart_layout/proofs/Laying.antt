-- How many gaps there are.
use Rattle.std.proofs.Common.{◌≡◌, ℕ, ◌≤◌, ◌+◌, Bool, List, length, ap, ◌∙◌, arith}
use Rattle.std.proofs.lemmas.List.FromFn.{length-map-range_with_len}
use Rattle.std.proofs.lemmas.List.Sums.{count_by-le-length}
use Rattle.protocol_values.specs.declared.Commit.{Commit}
use Rattle.journal_text.specs.Names.{Naming}
use Rattle.pcml_chart_layout.specs.Places.{owners}
use Rattle.pcml_chart_layout.specs.Widths.{gap_width, gap_widths}
use Rattle.pcml_chart_layout.specs.declared.foot.Foot.{Foot}

pub few_gaps : (names : Naming) (own : List Bool) (feet : List Foot) (commits : List Commit) (gaps : List ℕ) → length own ≤ 64 → gaps ≡ gap_widths names own feet commits → length gaps ≤ 66
few_gaps names own feet commits gaps few is =
    let long : length gaps ≡ owners own + 2 = ap length is ∙ length-map-range_with_len (gap_width names own feet commits) 0 (owners own + 2) in
    let some = count_by-le-length (λ (b : Bool). b) own in
    omega arith
