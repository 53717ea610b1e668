-- What a thread has spawned, as it goes on.
use Rattle.std.proofs.Common.{◌⊎◌, ◌∙◌, ◌++◌, ◌∷◌, [], ℕ, zero, suc, List, Contains, ap, append_assoc, arith, inl, inr, subst, sym, ⊎_elim}
use Rattle.std.proofs.lemmas.List.{append-nil}
use Rattle.thread.specs.Memories.{AddsNew}

-- an element of two lists, one behind the other, is of one of them
pub in_either : (xs ys : List ℕ) (x : ℕ) → Contains (xs ++ ys) x → Contains xs x ⊎ Contains ys x
in_either [] ys x h = inr h
in_either (z ∷ xs) ys x (zero, low, e) = inl (zero, omega arith, e)
in_either (z ∷ xs) ys x (suc i, low, e) = ⊎_elim
    (λ (left : Contains xs x). inl (suc left.0, omega (arith, left.1), left.2))
    (λ (right : Contains ys x). inr right)
    (in_either xs ys x (i, omega (arith, low), e))

pub in_first : (xs ys : List ℕ) (x : ℕ) → Contains xs x → Contains (xs ++ ys) x
in_first [] ys x h = absurd (omega (arith, h.1))
in_first (z ∷ xs) ys x (zero, low, e) = (zero, omega arith, e)
in_first (z ∷ xs) ys x (suc i, low, e) = let h = in_first xs ys x (i, omega (arith, low), e) in (suc h.0, omega (arith, h.1), h.2)

pub adds_nothing : (xs : List ℕ) → AddsNew xs xs
adds_nothing xs = ([], sym (append-nil xs), λ x h. absurd (omega (arith, h.1)))

pub adds_then : (xs ys zs : List ℕ) → AddsNew xs ys → AddsNew ys zs → AddsNew xs zs
adds_then xs ys zs a b = (
  a.0 ++ b.0,
  b.1 ∙ ap (λ (l : List ℕ). l ++ b.0) a.1 ∙ append_assoc xs a.0 b.0,
  λ x h old. ⊎_elim
      (λ (first : Contains a.0 x). a.2 x first old)
      (λ (later : Contains b.0 x). b.2 x later (subst (λ (l : List ℕ). Contains l x) (sym a.1) (in_first xs a.0 x old)))
      (in_either a.0 b.0 x h),
)
