-- A greatest number, one element or number more at a time.
use Rattle.std.proofs.Common.{◌≡◌, ℕ, zero, suc, ◌<◌, ◌≤◌, ◌+◌, List, [], ◌∷◌, ◌++◌, length, take, get_or, slice_get, Some, refl, sym, ap, ◌∙◌, arith, add-one, ⊎_elim}
use Rattle.std.proofs.lemmas.List.{take_more}
use Rattle.std.proofs.lemmas.Bool.{cases_lt}
use Rattle.std.proofs.lemmas.Bool.Decides.{nat_tests}
use Rattle.std.proofs.lemmas.Option.{none-some, same_Some}
use Rattle.std.specs.Prelude.{max}
use Rattle.pcml_chart_layout.specs.Most.{most_below, most_by}

-- one more element
most_by-more : {X : Type 0} (f : X → ℕ) (xs : List X) (x : X) → most_by f (xs ++ x ∷ []) ≡ max (f x) (most_by f xs)
most_by-more f [] x = refl
most_by-more f (y ∷ xs) x = let later = most_by-more f xs x in grind (arith, nat_tests, later)

pub most_by-step : {X : Type 0} (f : X → ℕ) (xs : List X) (i : ℕ) (d : X) (before after : ℕ) → i < length xs → before ≡ most_by f (take i xs) → after ≡ max (f (get_or xs i d)) before → after ≡ most_by f (take (i + 1) xs)
most_by-step f xs i d before after h is grown =
    grown ∙ ap (λ (n : ℕ). max (f (get_or xs i d)) n) is ∙ sym (ap (most_by f) (take_more xs i d h) ∙ most_by-more f (take i xs) (get_or xs i d))

-- none of them is greater
pub most_by-le : {X : Type 0} (f : X → ℕ) (xs : List X) (i : ℕ) (x : X) → slice_get xs i ≡ Some x → f x ≤ most_by f xs
most_by-le f [] i x is = absurd (none-some x is)
most_by-le f (y ∷ xs) zero x is = let same : f y ≡ f x = ap f (same_Some y x is) in grind (arith, nat_tests)
most_by-le f (y ∷ xs) (suc i) x is = let later : f x ≤ most_by f xs = most_by-le f xs i x is in grind (arith, nat_tests)

pub most_below-le : (f : ℕ → ℕ) (n t : ℕ) → t < n → f t ≤ most_below n f
most_below-le f zero t low = absurd (omega arith)
most_below-le f (suc n) t low =
    ⊎_elim
    (λ (lt : t < n). let later : f t ≤ most_below n f = most_below-le f n t lt in grind (arith, nat_tests))
    (λ (ge : n ≤ t). let same : f t ≡ f n = ap f (omega arith) in grind (arith, nat_tests))
    (cases_lt t n)

-- one more number
pub most_below-more : (f : ℕ → ℕ) (n : ℕ) → most_below (n + 1) f ≡ max (f n) (most_below n f)
most_below-more f n = rw add-one refl
