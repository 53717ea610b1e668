-- What stands at each place of a list, where one joins it or is replaced.
use Rattle.std.proofs.Common.{◌≡◌, ◌≢◌, ℕ, zero, suc, List, [], ◌∷◌, ◌++◌, length, set, sym, refl, ap, subst, ◌⊎◌, inl, inr, ⊎_elim, Some, None, All, arith, slice_get}
use Rattle.std.proofs.lemmas.Option.{slice_get-get_or}
use Rattle.meet_queues.specs.Positions.{AllAt}

module _ {X : Type 0} where
  no_element : (x : X) → None ≡ Some x → ⊥
  no_element x e = let bad : None ≡ Some x = e in cc

  same_element : (x y : X) → Some x ≡ Some y → x ≡ y
  same_element x y e = cc

  pub get_pushed : (xs : List X) (y x : X) (n : ℕ) → slice_get (xs ++ y ∷ []) n ≡ Some x → (slice_get xs n ≡ Some x) ⊎ ((n ≡ length xs) × (y ≡ x))
  get_pushed [] y x zero e = inr (refl, same_element y x e)
  get_pushed [] y x (suc n) e = absurd (no_element x e)
  get_pushed (z ∷ xs) y x zero e = inl e
  get_pushed (z ∷ xs) y x (suc n) e = ⊎_elim (λ (p : slice_get xs n ≡ Some x). inl p) (λ (p : (n ≡ length xs) × (y ≡ x)). inr (ap suc p.0, p.1)) (get_pushed xs y x n e)

  get_set : (xs : List X) (at n : ℕ) (y x : X) → slice_get (set xs at y) n ≡ Some x → ((n ≡ at) × (y ≡ x)) ⊎ ((n ≢ at) × (slice_get xs n ≡ Some x))
  get_set [] at n y x e = absurd (no_element x e)
  get_set (z ∷ xs) zero zero y x e = inl (refl, same_element y x e)
  get_set (z ∷ xs) zero (suc n) y x e = inr ((λ p. omega arith), e)
  get_set (z ∷ xs) (suc at) zero y x e = inr ((λ p. omega arith), e)
  get_set (z ∷ xs) (suc at) (suc n) y x e = ⊎_elim (λ (p : (n ≡ at) × (y ≡ x)). inl (ap suc p.0, p.1))
      (λ (p : (n ≢ at) × (slice_get xs n ≡ Some x)). let apart = p.0 in inr ((λ q. apart (omega arith)), p.1)) (get_set xs at n y x e)

  pub all_at_pushed : (P : ℕ → X → Type 0) (xs : List X) (y : X) → AllAt P xs → P (length xs) y → AllAt P (xs ++ y ∷ [])
  all_at_pushed P xs y old new n x e = ⊎_elim (λ (p : slice_get xs n ≡ Some x). old n x p)
      (λ (p : (n ≡ length xs) × (y ≡ x)). subst (λ (z : ℕ × X). P z.0 z.1) (λ i. (sym p.0 i, p.1 i)) new) (get_pushed xs y x n e)

  pub all_at_set : (P Q : ℕ → X → Type 0) (xs : List X) (at : ℕ) (y : X) → AllAt P xs → Q at y → ((n : ℕ) (x : X) → n ≢ at → P n x → Q n x) → AllAt Q (set xs at y)
  all_at_set P Q xs at y old new others n x e = ⊎_elim
      (λ (p : (n ≡ at) × (y ≡ x)). subst (λ (z : ℕ × X). Q z.0 z.1) (λ i. (sym p.0 i, p.1 i)) new)
      (λ (p : (n ≢ at) × (slice_get xs n ≡ Some x)). others n x p.0 (old n x p.1)) (get_set xs at n y x e)

  pub all_from_at : (P : ℕ → X → Type 0) (Q : X → Type 0) (xs : List X) → AllAt P xs → ((n : ℕ) (x : X) → P n x → Q x) → All Q xs
  all_from_at P Q xs each weaker k d less = weaker k _ (each k _ (slice_get-get_or xs k d less))
