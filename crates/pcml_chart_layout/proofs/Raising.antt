-- Lists of lengths that grow, one commit or process more at a time.
use Rattle.std.proofs.Common.{ℕ, ◌+◌, ◌<◌, max, List, length, take, get_or, sym, ap, ◌∙◌}
use Rattle.pcml_chart_layout.specs.Most.{most_below, most_by}
use Rattle.pcml_chart_layout.specs.Widths.{Lists, Raises}
use Rattle.pcml_chart_layout.proofs.Greatest.{most_below-more, most_by-step}

pub one_more : {X : Type 0} (f : ℕ → X → ℕ) (xs : List X) (i : ℕ) (d : X) (before after : List ℕ) → i < length xs → Lists (λ k. most_by (f k) (take i xs)) before
    → Raises (λ k. f k (get_or xs i d)) before after → Lists (λ k. most_by (f k) (take (i + 1) xs)) after
one_more f xs i d before after low listed raised k = most_by-step (f k) xs i d (get_or before k 0) (get_or after k 0) low (listed k) (raised k)

pub next_more : (f : ℕ → ℕ → ℕ) (t : ℕ) (before after : List ℕ) → Lists (λ k. most_below t (f k)) before → Raises (λ k. f k t) before after → Lists (λ k. most_below (t + 1) (f k)) after
next_more f t before after listed raised k = raised k ∙ ap (max (f k t)) (listed k) ∙ sym (most_below-more (f k) t)
