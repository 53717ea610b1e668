-- Handing out what lies in slots.
use Rattle.std.proofs.Common.{◌≡◌, ◌∙◌, ◌+◌, ◌<◌, ℕ, zero, suc, Bool, false, List, [], ◌∷◌, Option, None, Some, ap, arith, get_or, length, refl, slice_get, slice_set, subst, sym, ⊎_elim}
use mathlib.Core.Option.{some}
use lib.ListN.{get_elem?}
use Rattle.std.proofs.lemmas.Bool.{cases_eq}
use Rattle.std.proofs.lemmas.List.{get_or-set_other, get_or-set_same, length-set}
use Rattle.std.proofs.lemmas.Option.{get_or_from_slice_get, slice_get-get_or, slice_get_within}

-- one place more is filled
pub handed_more : {A : Type 0} (P : ℕ → A → Type 0) (xs : List (Option A)) (n : ℕ) (x : Option A) → n < length xs → ((t : ℕ) (v : A) → slice_get xs t ≡ Some (Some v) → P t v) → ((v : A) → x ≡ Some v → P n v)
    → (t : ℕ) (v : A) → slice_get (slice_set xs n x) t ≡ Some (Some v) → P t v
handed_more P xs n x low before now t v e = ⊎_elim
    (λ (same : t ≡ n).
    subst (λ (k : ℕ). P k v) (sym same) (now v (sym (get_or-set_same xs n x None low) ∙ ap (λ (k : ℕ). get_or (slice_set xs n x) k None) (sym same) ∙ get_or_from_slice_get (slice_set xs n x) t (Some v) None e)))
    (λ (other : t ≡ n → ⊥).
    before t v (slice_get-get_or xs t None (subst (λ (k : ℕ). t < k) (length-set xs n x) (slice_get_within (slice_set xs n x) t (Some v) e))
    ∙ ap Some (sym (get_or-set_other xs n t x None other) ∙ get_or_from_slice_get (slice_set xs n x) t (Some v) None e)))
    (cases_eq t n)

-- and of those places that are to be filled each one is
pub filled_more : {A : Type 0} (Q : ℕ → A → Type 0) (xs : List (Option A)) (n : ℕ) (x : Option A) → n < length xs → ((t : ℕ) (v : A) → t < n → Q t v → slice_get xs t ≡ Some (Some v)) → ((v : A) → Q n v → x ≡ Some v)
    → (t : ℕ) (v : A) → t < n + 1 → Q t v → slice_get (slice_set xs n x) t ≡ Some (Some v)
filled_more Q xs n x low before now t v below q =
    let size : length (slice_set xs n x) ≡ length xs = length-set xs n x in
    let there : t < length (slice_set xs n x) = omega (arith, size, low, below) in
    slice_get-get_or (slice_set xs n x) t None there ∙ ap Some (⊎_elim
    (λ (same : t ≡ n). ap (λ (k : ℕ). get_or (slice_set xs n x) k None) same ∙ get_or-set_same xs n x None low ∙ now v (subst (λ (k : ℕ). Q k v) same q))
    (λ (other : t ≡ n → ⊥). get_or-set_other xs n t x None other ∙ get_or_from_slice_get xs t (Some v) None (before t v (omega (arith, below, other)) q))
    (cases_eq t n))

-- a slot that has a value is there
pub slot_inside : {A : Type 0} (xs : List A) (t : ℕ) (v : A) → get_elem? xs t ≡ some v → t < length xs
slot_inside [] t v e = absurd (mathlib.Core.Option.some-ne-none v (sym e))
slot_inside (x ∷ xs) zero v e = omega arith
slot_inside (x ∷ xs) (suc t) v e = let h = slot_inside xs t v e in omega (arith, h)

set_false : (xs : List Bool) (n : ℕ) → get_or (slice_set xs n false) n false ≡ false
set_false [] n = refl
set_false (x ∷ xs) zero = refl
set_false (x ∷ xs) (suc n) = set_false xs n

pub emptied_more : (xs : List Bool) (n : ℕ) → ((k : ℕ) → k < n → get_or xs k false ≡ false) → (k : ℕ) → k < n + 1 → get_or (slice_set xs n false) k false ≡ false
emptied_more xs n before k below = ⊎_elim
    (λ (same : k ≡ n). ap (λ (i : ℕ). get_or (slice_set xs n false) i false) same ∙ set_false xs n)
    (λ (other : k ≡ n → ⊥). get_or-set_other xs n k false false other ∙ before k (omega (arith, other)))
    (cases_eq k n)
