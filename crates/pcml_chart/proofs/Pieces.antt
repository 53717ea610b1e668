-- Pieces of text, one after another.
use Rattle.std.proofs.Common.{◌≡◌, ℕ, ◌+◌, List, ◌++◌, refl, add-one, ◌∙◌, ap, append_assoc}
use Rattle.pcml_chart.specs.Chart.{each_below}

each_below-one : (f : ℕ → List ℕ) (n : ℕ) → each_below n f ++ f n ≡ each_below (n + 1) f
each_below-one f n = rw add-one refl

-- one more number
pub each_below-more : (f : ℕ → List ℕ) (n : ℕ) (before text more : List ℕ) → text ≡ before ++ each_below n f → more ≡ text ++ f n → more ≡ before ++ each_below (n + 1) f
each_below-more f n before text more is grown =
    grown ∙ ap (λ (l : List ℕ). l ++ f n) is ∙ append_assoc before (each_below n f) (f n) ∙ ap (λ (l : List ℕ). before ++ l) (each_below-one f n)
