-- The column of a process, from the table of them all.
use Rattle.std.proofs.Common.{◌≡◌, ℕ, ◌+◌, ◌<◌, ◌≤◌, Bool, false, List, length, take, get_or, if◌then◌else◌, sym, ap, ◌∙◌, arith}
use Rattle.std.specs.Prelude.{map}
use Rattle.std.specs.List.{range_with_len}
use Rattle.std.proofs.lemmas.Bool.Decides.{nat_tests}
use Rattle.std.proofs.lemmas.List.{get_or_past}
use Rattle.std.proofs.lemmas.List.FromFn.{get_or-map-range_with_len, length-map-range_with_len}
use Rattle.std.proofs.lemmas.List.Sums.{sum_by-take-le}
use Rattle.pcml_chart_layout.specs.Places.{column, others_column, owners}

pub column-within : (own : List Bool) (t : ℕ) → (1 ≤ column own t) × (column own t ≤ owners own + 1)
column-within own t = let part = sum_by-take-le (λ (b : Bool). if b then 1 else 0) own t in grind (arith, nat_tests)

module _ (own : List Bool) (places : List ℕ) (t : ℕ) (placed : places ≡ map (column own) (range_with_len 0 (length own))) where
  long : length places ≡ length own
  long = ap length placed ∙ length-map-range_with_len (column own) 0 (length own)

  pub column_there : t < length places → get_or places t 0 ≡ column own t
  column_there low =
      let same = long in
      ap (λ (l : List ℕ). get_or l t 0) placed ∙ get_or-map-range_with_len (column own) 0 (length own) t t 0 (omega arith) (omega arith)

  pub column_past : length places ≤ t → others_column own ≡ column own t
  column_past past =
      let same = long in
      sym (ap (λ (b : Bool). if b then owners (take t own) + 1 else others_column own) (get_or_past own t false (omega arith)))
