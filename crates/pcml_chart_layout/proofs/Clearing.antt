-- The gaps are wide enough: no text crosses a line of life.
use Rattle.std.proofs.Common.{◌≡◌, ℕ, ◌+◌, ◌-◌, ◌*◌, ◌/◌, ◌<◌, ◌≤◌, Bool, true, false, List, length, if◌then◌else◌, codes, slice_get, Some, sym, ap, ◌∙◌, arith, true≢false, ⊎_elim}
use Rattle.std.specs.Fmt.{decimal}
use Rattle.std.proofs.lemmas.Bool.{cases_lt}
use Rattle.std.proofs.lemmas.Bool.Decides.{nat_tests}
use Rattle.std.proofs.lemmas.List.{get_or_past}
use Rattle.std.proofs.lemmas.List.FromFn.{get_or-map-range_with_len, length-map-range_with_len}
use Rattle.std.proofs.lemmas.List.Sums.{sum_by_more}
use Rattle.protocol_values.specs.declared.Commit.{Commit}
use Rattle.protocol_values.specs.declared.Commit.TheVariants.{Pair, Alone}
use Rattle.protocol_values.specs.declared.Offer.{Offer}
use Rattle.protocol_values.specs.Commits.{stamp_of}
use Rattle.journal_text.specs.Offers.{offer_text}
use Rattle.pcml_chart_layout.specs.Clear.{Content, gaps_of, IsBetween, IsRound, LabelsAreClear, NamesAreClear, OffersAreClear, OthersAreClear, StampsAreClear, StandsAreClear}
use Rattle.pcml_chart_layout.specs.Feet.{offers_of, stand_text}
use Rattle.pcml_chart_layout.specs.Seen.{seen}
use Rattle.pcml_chart_layout.specs.Labels.{gap_of, is_arrow, label_text}
use Rattle.pcml_chart_layout.specs.Places.{column, is_own, line_at, others_column, owners}
use Rattle.pcml_chart_layout.specs.Widths.{commit_length, foot_length, foot_length_at, gap_width, if_at, longest_in, longest_round, name_and_foot_length, others_length, process_length, room}
use Rattle.pcml_chart_layout.specs.declared.foot.Foot.{Foot}
use Rattle.pcml_chart_layout.specs.declared.spot.Spot.TheVariants.{Behind, Round}
use Rattle.pcml_chart_layout.proofs.Greatest.{most_below-le, most_by-le}
use Rattle.pcml_chart_layout.proofs.Placing.{column-within}

-- COLUMNS

pub gap-within : (own : List Bool) (c : Commit) → gap_of own c ≤ owners own + 1
gap-within own (Pair sender receiver chan msg stamp) =
    let one = column-within own sender.0.thread in
    let other = column-within own receiver.0.thread in
    grind (arith, nat_tests)
gap-within own (Alone at cause stamp) = (column-within own at.0.thread).1

own-within : (own : List Bool) (t : ℕ) → is_own own t ≡ true → t < length own
own-within own t is = ⊎_elim (λ lt. lt) (λ ge. absurd (true≢false (sym is ∙ get_or_past own t false ge))) (cases_lt t (length own))

-- WIDTHS

at-same : (k n : ℕ) → if_at k k n ≡ n
at-same k n = grind (arith, nat_tests)

room-label : (n left right : ℕ) → 8 * n + 18 ≤ room n left right
room-label n left right = grind (arith, nat_tests)

room-round : (n left right : ℕ) → 4 * (left + right) + 16 ≤ room n left right
room-round n left right = grind (arith, nat_tests)

abbrev width_of : Content → ℕ → ℕ
width_of p k = gap_width p.names p.own p.feet p.commits k

-- behind each gap stands the next line
line-after : (p : Content) (k : ℕ) → k ≤ owners p.own + 1 → line_at (gaps_of p) (k + 1) ≡ line_at (gaps_of p) k + width_of p k
line-after p k low =
    let n = owners p.own + 2 in
    let below : k < length (gaps_of p) = omega (arith, length-map-range_with_len (width_of p) 0 n) in
    sum_by_more (λ (x : ℕ). x) (gaps_of p) k 0 below
    ∙ ap (λ (w : ℕ). line_at (gaps_of p) k + w) (get_or-map-range_with_len (width_of p) 0 n k k 0 (omega arith) (omega arith))

-- IN A GAP

between : (low high width : ℕ) (b : Bool) (text : List ℕ) → high ≡ low + width → 8 * length text + 18 ≤ width → IsBetween low high (if b then Round ((low + high) / 2) else Behind (low + 9)) text
between low high width true text is wide = (omega arith, omega arith)
between low high width false text is wide = (omega arith, omega arith)

pub labels_clear : LabelsAreClear
labels_clear p j c is =
    let k = gap_of p.own c in
    let text = seen (label_text p.names p.own c) in
    let one : commit_length p.names p.own k c ≤ longest_in p.names p.own p.commits k = most_by-le (commit_length p.names p.own k) p.commits j c is in
    let same : if_at k k (length text) ≡ length text = at-same k (length text) in
    let long : length text ≤ longest_in p.names p.own p.commits k = grind (arith, nat_tests) in
    let roomy = room-label (longest_in p.names p.own p.commits k) (longest_round p.names p.own p.feet k) (longest_round p.names p.own p.feet (k + 1)) in
    between (line_at (gaps_of p) k) (line_at (gaps_of p) (k + 1)) (width_of p k) (is_arrow p.own c) text (line-after p k (gap-within p.own c)) (omega arith)

pub stamps_clear : StampsAreClear
stamps_clear p j c is =
    let digits = length (decimal (stamp_of c)) in
    let one : commit_length p.names p.own 0 c ≤ longest_in p.names p.own p.commits 0 = most_by-le (commit_length p.names p.own 0) p.commits j c is in
    let long : digits ≤ longest_in p.names p.own p.commits 0 = grind (arith, nat_tests) in
    let roomy = room-label (longest_in p.names p.own p.commits 0) (longest_round p.names p.own p.feet 0) (longest_round p.names p.own p.feet 1) in
    let after : line_at (gaps_of p) 1 ≡ 0 + width_of p 0 = line-after p 0 (omega arith) in
    (omega arith, omega arith)

-- ROUND A LINE

round : (p : Content) (k : ℕ) (text : List ℕ) → 1 ≤ k → k ≤ owners p.own + 1 → length (seen text) ≤ longest_round p.names p.own p.feet k → IsRound p k text
round p k text first last long =
    let j = k - 1 in
    let here : line_at (gaps_of p) (j + 1) ≡ line_at (gaps_of p) k = ap (line_at (gaps_of p)) (omega arith) in
    let same : longest_round p.names p.own p.feet (j + 1) ≡ longest_round p.names p.own p.feet k = ap (longest_round p.names p.own p.feet) (omega arith) in
    let before = line-after p j (omega arith) in
    let after = line-after p k last in
    let left = room-round (longest_in p.names p.own p.commits j) (longest_round p.names p.own p.feet j) (longest_round p.names p.own p.feet (j + 1)) in
    let right = room-round (longest_in p.names p.own p.commits k) (longest_round p.names p.own p.feet k) (longest_round p.names p.own p.feet (k + 1)) in
    (omega arith, omega arith)

process-within : (p : Content) (k t : ℕ) → t < length p.own → process_length p.names p.own p.feet k t ≤ longest_round p.names p.own p.feet k
process-within p k t low = let most = most_below-le (process_length p.names p.own p.feet k) (length p.own) t low in grind (arith, nat_tests)

-- a text of a process that is no longer than its name or its foot
round_own : (p : Content) (t : ℕ) (text : List ℕ) → is_own p.own t ≡ true → length (seen text) ≤ name_and_foot_length p.names p.feet t → IsRound p (column p.own t) text
round_own p t text owns long =
    let k = column p.own t in
    let within = column-within p.own t in
    let m = name_and_foot_length p.names p.feet t in
    let one : process_length p.names p.own p.feet k t ≤ longest_round p.names p.own p.feet k = process-within p k t (own-within p.own t owns) in
    let same : process_length p.names p.own p.feet k t ≡ m = ap (λ (b : Bool). if b then if_at k k m else 0) owns ∙ at-same k m in
    round p k text within.0 within.1 (omega arith)

pub names_clear : NamesAreClear
names_clear p t owns = round_own p t (p.names.thread t) owns (grind (arith, nat_tests))

pub others_clear : OthersAreClear
others_clear p some =
    let k = others_column p.own in
    let same : others_length p.own k ≡ 6 = ap (λ (b : Bool). if b then if_at k k 6 else 0) some ∙ at-same k 6 in
    round p k (codes "others") (omega arith) (omega arith) (grind (arith, nat_tests))

-- a line of a foot
round_foot : (p : Content) (t : ℕ) (f : Foot) (text : List ℕ) → slice_get p.feet t ≡ Some f → is_own p.own t ≡ true → length (seen text) ≤ foot_length p.names f → IsRound p (column p.own t) text
round_foot p t f text there owns long =
    let same : foot_length_at p.names (slice_get p.feet t) ≡ foot_length p.names f = ap (foot_length_at p.names) there in
    round_own p t text owns (grind (arith, nat_tests))

pub stands_clear : StandsAreClear
stands_clear p t f there owns = round_foot p t f (stand_text p.names f) there owns (grind (arith, nat_tests))

pub offers_clear : OffersAreClear
offers_clear p t f there owns i o is =
    let one = most_by-le (λ (o : Offer). length (seen (offer_text p.names o.base))) (offers_of f) i o is in
    round_foot p t f (offer_text p.names o.base) there owns (grind (arith, nat_tests))
