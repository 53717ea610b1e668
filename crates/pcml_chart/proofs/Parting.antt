-- The marks of two commits stand apart.
use Rattle.std.proofs.Common.{◌≡◌, ℕ, zero, suc, ◌<◌, List, [], ◌++◌, length, sym, ap, ap₂, ◌∙◌, arith, append_assoc, append-nil, ⊎_elim}
use Rattle.std.proofs.lemmas.Bool.{cases_lt}
use Rattle.std.proofs.lemmas.Option.{slice_get_within}
use Rattle.pcml_chart.specs.Apart.{MarksAreApart}
use Rattle.pcml_chart.specs.Chart.{each_below, feet_below, front, heading, heading_of, layout_of, lifelines, low_of, page_end}
use Rattle.pcml_chart.specs.Marks.{mark}
use Rattle.pcml_chart_layout.specs.Feet.{lines_below}
use Rattle.pcml_chart_layout.specs.Places.{Layout, height}
use Rattle.pcml_chart.specs.Rows.{mark_at, row, stamp_mark}

-- one of the pieces, and what stands before and behind it
Splits : (ℕ → List ℕ) → ℕ → ℕ → Type 0
Splits f j n = (rest : List ℕ) × (each_below n f ≡ each_below j f ++ f j ++ rest)

each_below-split : (f : ℕ → List ℕ) (j n : ℕ) → j < n → Splits f j n
unfolding Splits
each_below-split f j zero low = absurd (omega arith)
each_below-split f j (suc n) low =
    ⊎_elim
    (λ (lt : j < n).
    let split : Splits f j n = each_below-split f j n lt in
    (split.0 ++ f n, ap (λ (l : List ℕ). l ++ f n) split.1 ∙ append_assoc (each_below j f ++ f j) split.0 (f n)))
    (λ ge. let same : j ≡ n = omega arith in ([], ap (λ (i : ℕ). each_below i f ++ f i) (sym same) ∙ sym (append-nil (each_below j f ++ f j))))
    (cases_lt j n)

regroup : (h a s m r t n q e g : List ℕ) → h ++ (a ++ (s ++ m) ++ r ++ (t ++ n) ++ q) ++ e ++ g ≡ (h ++ a ++ s) ++ m ++ (r ++ t) ++ n ++ (q ++ e ++ g)
regroup h a s m r t n q e g = simp append_assoc

pub marks_apart : MarksAreApart
unfolding Splits
marks_apart p j k c d low first last =
    let l : Layout = layout_of p in
    let f : ℕ → List ℕ = row p.names p.stamps l p.commits in
    let outer : Splits f k (length p.commits) = each_below-split f k (length p.commits) (slice_get_within p.commits k d last) in
    let inner : Splits f j k = each_below-split f j k low in
    let of_mark : ℕ → List ℕ = λ i. stamp_mark l.width p.commits i in
    let head : List ℕ = front l.width (low_of p) (lines_below p.own p.feet) ++ heading_of (heading p) ++ lifelines p.names l (low_of p) in
    let feet : List ℕ = feet_below p.names l p.feet (low_of p) in
    let one : f j ≡ of_mark j ++ mark p.names p.stamps l p.commits (height j) c = ap (λ o. of_mark j ++ mark_at p.names p.stamps l p.commits (height j) o) first in
    let two : f k ≡ of_mark k ++ mark p.names p.stamps l p.commits (height k) d = ap (λ o. of_mark k ++ mark_at p.names p.stamps l p.commits (height k) o) last in
    record {
      height = height j;
      other = height k;
      rises = omega arith;
      before = head ++ each_below j f ++ of_mark j;
      between = inner.0 ++ of_mark k;
      after = outer.0 ++ feet ++ page_end;
      is =
          ap (λ (m : List ℕ). head ++ m ++ feet ++ page_end)
          (outer.1 ∙ ap (λ (m : List ℕ). m ++ f k ++ outer.0) inner.1 ∙ ap₂ (λ (x y : List ℕ). each_below j f ++ x ++ inner.0 ++ y ++ outer.0) one two)
          ∙ regroup head (each_below j f) (of_mark j) (mark p.names p.stamps l p.commits (height j) c) inner.0 (of_mark k) (mark p.names p.stamps l p.commits (height k) d) outer.0 feet page_end;
    }
