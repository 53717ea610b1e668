-- Lists from which elements are taken out while they are walked from the end.
use Rattle.std.proofs.Common.{◌≡◌, ℕ, ◌+◌, ◌-◌, ◌<◌, ◌≤◌, List, length, get_or, set, swap_remove, Contains, sym, ap, ◌∙◌, subst, arith, ⊎_elim, get_or-set_same, get_or-set_other}
use Rattle.std.proofs.lemmas.Bool.{cases_eq}
use Rattle.std.proofs.lemmas.List.{length-set, length-take, get_or-take, get_or_default}

-- P holds of the elements from place i on
abbrev pub Behind : {X : Type 0} → (X → Type 0) → List X → ℕ → Type 0
Behind {X} P xs i = (k : ℕ) (d : X) → i ≤ k → k < length xs → P (get_or xs k d)

module _ {X : Type 0} where
  pub length-swap : (xs : List X) (i : ℕ) (d : X) → length (swap_remove xs i d) ≡ length xs - 1
  length-swap xs i d =
      let last : X = get_or xs (length xs - 1) d in
      omega (arith, length-take (length xs - 1) (set xs i last), length-set xs i last)

  before-last : (xs : List X) (i k : ℕ) (d e : X) → k < length xs - 1 → get_or (swap_remove xs i d) k e ≡ get_or (set xs i (get_or xs (length xs - 1) d)) k e
  before-last xs i k d e lt = get_or-take (length xs - 1) (set xs i (get_or xs (length xs - 1) d)) k e lt

  -- at place i stands the last element, all others stay
  swapped-at : (xs : List X) (i : ℕ) (d e : X) → i < length xs - 1 → get_or (swap_remove xs i d) i e ≡ get_or xs (length xs - 1) d
  swapped-at xs i d e lt = before-last xs i i d e lt ∙ get_or-set_same xs i (get_or xs (length xs - 1) d) e (omega (arith, lt))

  swapped-other : (xs : List X) (i k : ℕ) (d e : X) → k < length xs - 1 → (k ≡ i → ⊥) → get_or (swap_remove xs i d) k e ≡ get_or xs k e
  swapped-other xs i k d e lt ne = before-last xs i k d e lt ∙ get_or-set_other xs i k (get_or xs (length xs - 1) d) e ne

  pub contains-swapped : (xs : List X) (i : ℕ) (d e x : X) → i < length xs → Contains xs x → (get_or xs i e ≡ x → ⊥) → Contains (swap_remove xs i d) x
  contains-swapped xs i d e x within there other =
      let long = length-swap xs i d in
      let k : ℕ = there.0 in
      let apart : k ≡ i → ⊥ = λ same. other (get_or_default xs i e x within ∙ ap (λ (n : ℕ). get_or xs n x) (sym same) ∙ there.2) in
      ⊎_elim
      (λ last.
      let in_place : i < length xs - 1 = omega (arith, within, last, λ (e : i ≡ length xs - 1). apart (last ∙ sym e)) in
      (i, omega (arith, long, in_place), swapped-at xs i d x in_place ∙ get_or_default xs (length xs - 1) d x (omega (arith, there.1)) ∙ ap (λ (n : ℕ). get_or xs n x) (sym last) ∙ there.2))
      (λ ne.
      let lt : k < length xs - 1 = omega (arith, there.1, ne) in
      (k, omega (arith, long, lt), swapped-other xs i k d x lt apart ∙ there.2))
      (cases_eq k (length xs - 1))

  pub behind-swapped : (P : X → Type 0) (xs : List X) (i : ℕ) (d : X) → i < length xs → Behind P xs (i + 1) → Behind P (swap_remove xs i d) i
  behind-swapped P xs i d within own k e le lt =
      let long = length-swap xs i d in
      let low : k < length xs - 1 = omega (arith, lt, long) in
      ⊎_elim
      (λ same.
      let is : get_or (swap_remove xs i d) k e ≡ get_or xs (length xs - 1) d = ap (λ (n : ℕ). get_or (swap_remove xs i d) n e) same ∙ swapped-at xs i d e (omega (arith, low, same)) in
      subst P (sym is) (own (length xs - 1) d (omega (arith, low, same)) (omega (arith, low))))
      (λ ne. subst P (sym (swapped-other xs i k d e low ne)) (own k e (omega (arith, le, ne)) (omega (arith, low))))
      (cases_eq k i)

  pub behind-more : (P : X → Type 0) (xs : List X) (i : ℕ) (d : X) → P (get_or xs i d) → Behind P xs (i + 1) → Behind P xs i
  behind-more P xs i d here own k e le lt = ⊎_elim
      (λ same. subst P (get_or_default xs i d e (omega (arith, lt, same)) ∙ ap (λ (n : ℕ). get_or xs n e) (sym same)) here)
      (λ ne. own k e (omega (arith, le, ne)) lt)
      (cases_eq k i)

  pub behind-all : (P : X → Type 0) (xs : List X) (x : X) → Behind P xs 0 → Contains xs x → P x
  behind-all P xs x own there = subst P there.2 (own there.0 x (omega arith) there.1)
