-- A greatest number.
use Rattle.std.specs.Prelude.{ℕ, zero, suc, max, List, [], ◌∷◌}

-- the greatest number of the list's elements, 0 where there is none
abbrev pub most_by : {X : Type 0} → (X → ℕ) → List X → ℕ
most_by f [] = 0
most_by f (x ∷ xs) = max (f x) (most_by f xs)

-- the same of the numbers below n
abbrev pub most_below : ℕ → (ℕ → ℕ) → ℕ
most_below zero f = 0
most_below (suc n) f = max (f n) (most_below n f)
