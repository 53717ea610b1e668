-- Handles that are filled one after the other.
use Rattle.std.proofs.Common.{List, Some, [], ap, arith, drop, get_or, length, map, option_map, refl, set, subst, suc, sym, zero, ◌+◌, ◌<◌, ◌∙◌, ◌∷◌, ◌≡◌, ℕ, ⊎_elim}
use Rattle.std.specs.Prelude.{slice_get}
use Rattle.std.proofs.lemmas.Bool.{cases_eq}
use Rattle.std.proofs.lemmas.List.{get_or-set_other, get_or-set_same, length-set}
use Rattle.std.proofs.lemmas.Option.{get_or_from_slice_get, slice_get-get_or, slice_get-map, slice_get_within}
use Rattle.cell_hand.specs.declared.kept.Kept.{Kept}
use Rattle.pcml_cells.specs.declared.handle.Handle.{Handle}

-- the element at which the rest begins
pub at_drop : {A : Type 0} (xs : List A) (n : ℕ) (x : A) (left : List A) → drop n xs ≡ x ∷ left → slice_get xs n ≡ Some x
at_drop [] zero x left e = ap (λ (l : List _). slice_get l 0) e
at_drop [] (suc n) x left e = ap (λ (l : List _). slice_get l 0) e
at_drop (y ∷ xs) zero x left e = ap (λ (l : List _). slice_get l 0) e
at_drop (y ∷ xs) (suc n) x left e = at_drop xs n x left e

drop_again : {A : Type 0} (xs : List A) (n : ℕ) → drop (suc n) xs ≡ drop 1 (drop n xs)
drop_again [] zero = refl
drop_again [] (suc n) = refl
drop_again (y ∷ xs) zero = refl
drop_again (y ∷ xs) (suc n) = drop_again xs n

-- and what is left behind it
pub past_drop : {A : Type 0} (xs : List A) (n : ℕ) (x : A) (left : List A) → drop n xs ≡ x ∷ left → left ≡ drop (n + 1) xs
past_drop xs n x left e =
    let next : suc n ≡ n + 1 = omega arith in
    subst (λ (m : ℕ). left ≡ drop m xs) next (sym (drop_again xs n ∙ ap (λ (l : List _). drop 1 l) e))

pub filled_next : {B : Type 0} (v : B → Kept) (boxes : List B) (passes : List Handle) (n : ℕ) (b : B) (left : List B) (h : Handle) → n < length passes
    → drop n boxes ≡ b ∷ left → h.kept ≡ Some (v b)
    → ((k : ℕ) (place : Handle) → k < n → slice_get passes k ≡ Some place → place.kept ≡ slice_get (map v boxes) k)
    → (k : ℕ) (place : Handle) → k < n + 1 → slice_get (set passes n h) k ≡ Some place → place.kept ≡ slice_get (map v boxes) k
filled_next v boxes passes n b left h low rest kept before k place below e =
    let found = get_or_from_slice_get (set passes n h) k place h e in
    ⊎_elim
    (λ (same : k ≡ n).
    let is : h ≡ place = sym (get_or-set_same passes n h h low) ∙ subst (λ (i : ℕ). get_or (set passes n h) i h ≡ place) same found in
    let at : slice_get (map v boxes) n ≡ Some (v b) = slice_get-map v boxes n ∙ ap (option_map v) (at_drop boxes n b left rest) in
    subst (λ (p : Handle). p.kept ≡ slice_get (map v boxes) k) is (kept ∙ sym (subst (λ (i : ℕ). slice_get (map v boxes) i ≡ Some (v b)) (sym same) at)))
    (λ (other : k ≡ n → ⊥).
    let was = sym (get_or-set_other passes n k h h other) ∙ found in
    let there : k < length passes = subst (λ (m : ℕ). k < m) (length-set passes n h) (slice_get_within (set passes n h) k place e) in
    before k place (omega (arith, below, other)) (slice_get-get_or passes k h there ∙ ap (λ (p : Handle). Some p) was))
    (cases_eq k n)

-- the handles keep what these lists say
pub kept_hand : {B H : Type 0} (v : B → Kept) (by : H → Kept) (boxes : List B) (hands : List H) (n : ℕ) (h : H) → map v boxes ≡ map by hands → slice_get hands n ≡ Some h
    → slice_get (map v boxes) n ≡ Some (by h)
kept_hand v by boxes hands n h same e = subst (λ (l : List Kept). slice_get l n ≡ Some (by h)) (sym same) (slice_get-map by hands n ∙ ap (option_map by) e)
