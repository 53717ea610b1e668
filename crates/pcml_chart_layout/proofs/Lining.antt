-- The lines of the columns, one gap more at a time.
use Rattle.std.proofs.Common.{◌≡◌, ℕ, ◌+◌, ◌<◌, ◌≤◌, List, [], ◌∷◌, ◌++◌, length, get_or, min, sym, ap, ap₂, ◌∙◌, arith, take_all, ⊎_elim}
use Rattle.std.specs.Prelude.{map}
use Rattle.std.specs.List.{range_with_len, sum}
use Rattle.std.proofs.lemmas.Bool.{cases_lt}
use Rattle.std.proofs.lemmas.List.FromFn.{get_or-map-range_with_len, length-map-range_with_len, map-range_with_len_more}
use Rattle.std.proofs.lemmas.List.Sums.{sum_by_more}
use Rattle.pcml_chart_layout.specs.Places.{line_at}

-- the lines before so many gaps, and the one behind them
abbrev pub lines_before : List ℕ → ℕ → List ℕ
lines_before gaps n = map (line_at gaps) (range_with_len 0 n)

pub line_more : (gaps : List ℕ) (i d line : ℕ) → i < length gaps → line ≡ line_at gaps i → line + get_or gaps i d ≡ line_at gaps (i + 1)
line_more gaps i d line low is = ap (λ (n : ℕ). n + get_or gaps i d) is ∙ sym (sum_by_more (λ (x : ℕ). x) gaps i d low)

pub lines_more : (gaps before after : List ℕ) (n line : ℕ) → before ≡ lines_before gaps n → line ≡ line_at gaps n → after ≡ before ++ line ∷ [] → after ≡ lines_before gaps (n + 1)
lines_more gaps before after n line is same grown =
    grown ∙ ap₂ (λ (l : List ℕ) (x : ℕ). l ++ x ∷ []) is same ∙ sym (map-range_with_len_more (line_at gaps) 0 n n (omega arith))

-- behind the last gap each place has the right border
pub line_there : (gaps lines : List ℕ) (k at : ℕ) → lines ≡ lines_before gaps (length gaps + 1) → at ≡ min k (length gaps) → get_or lines at 0 ≡ line_at gaps k
line_there gaps lines k at is where_it_is =
    ap (λ (l : List ℕ). get_or l at 0) is
    ∙ get_or-map-range_with_len (line_at gaps) 0 (length gaps + 1) at at 0 (omega arith) (omega arith)
    ∙ ⊎_elim
    (λ (lt : k < length gaps). ap (line_at gaps) (omega arith))
    (λ (ge : length gaps ≤ k). ap sum (take_all at gaps (omega arith) ∙ sym (take_all k gaps ge)))
    (cases_lt k (length gaps))

pub lines_within : (gaps lines : List ℕ) (k at : ℕ) → lines ≡ lines_before gaps (length gaps + 1) → at ≡ min k (length gaps) → at < length lines
lines_within gaps lines k at is where_it_is =
    let long : length lines ≡ length gaps + 1 = ap length is ∙ length-map-range_with_len (line_at gaps) 0 (length gaps + 1) in
    omega arith
