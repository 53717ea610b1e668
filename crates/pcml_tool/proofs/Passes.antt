-- The two passes of a table, taken from the end of their list.
use Rattle.std.proofs.Common.{◌≡◌, ◌≤◌, List, [], ◌∷◌, ◌++◌, length, slice_get, Some, sym, refl, ap, ◌∙◌, subst, arith}
use Rattle.cell.specs.Calls.{PassView}

pub popped : (xs ys zs : List PassView) (a b : PassView) → xs ≡ ys ++ b ∷ [] → ys ≡ zs ++ a ∷ [] → length xs ≡ 2 → (slice_get xs 0 ≡ Some a) × (slice_get xs 1 ≡ Some b)
popped xs ys zs a b last first len =
    let whole : xs ≡ (zs ++ a ∷ []) ++ b ∷ [] = last ∙ ap (λ (l : List PassView). l ++ b ∷ []) first in
    subst (λ (l : List PassView). (slice_get l 0 ≡ Some a) × (slice_get l 1 ≡ Some b)) (sym whole) (two zs (ap length (sym whole) ∙ len))
  where
    two : (zs : List PassView) → length ((zs ++ a ∷ []) ++ b ∷ []) ≡ 2 → (slice_get ((zs ++ a ∷ []) ++ b ∷ []) 0 ≡ Some a) × (slice_get ((zs ++ a ∷ []) ++ b ∷ []) 1 ≡ Some b)
    two [] e = (refl, refl)
    two (z ∷ zs) e = let h = both zs in absurd (omega arith)
      where
        both : (ys : List PassView) → 2 ≤ length ((ys ++ a ∷ []) ++ b ∷ [])
        both [] = omega arith
        both (y ∷ ys) = let h = both ys in omega arith
