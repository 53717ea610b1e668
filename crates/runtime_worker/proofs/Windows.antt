-- The part of a ring that holds something, as things are put in and taken out.
use Rattle.std.proofs.Common.{◌≡◌, ℕ, ◌+◌, ◌-◌, ◌%◌, ◌<◌, ◌≤◌, ◌⊎◌, List, [], ◌∷◌, ◌++◌, length, get_or, set, ap, ◌∙◌, ap₂, inl, inr, mod-eq_of_lt, arith, length-append, length-drop, length-set, length-take-le, get_or-drop, get_or-take}
use native.Mathlib.Nat.{mod-eq-sub-mod, mod-add-mod}
use Rattle.std.proofs.lemmas.List.{same_lists, drop_more, get_or_append_left, get_or-append_right}
use Rattle.std.proofs.lemmas.Bool.{cases_lt}
use Rattle.std.proofs.lemmas.Grind.{common_steps}
use Rattle.runtime_worker.specs.Windows.{window}

-- a place below 2 N wraps once at most
mod_wraps_once : (N j : ℕ) → j < N + N → ((j < N) × (j % N ≡ j)) ⊎ ((N ≤ j) × (j % N ≡ j - N))
mod_wraps_once N j below = elim (cases_lt j N) [
  | inl low ↦ inl (low, mod-eq_of_lt low)
  | inr high ↦ inr (high, mod-eq-sub-mod high ∙ mod-eq_of_lt (omega arith))
]

module _ {X : Type 0} (N k n : ℕ) (xs : List X) (start : k < N) (fits : n ≤ N) (size : length xs ≡ N) where
  pub length_window : length (window k n xs) ≡ n
  length_window = length-take-le n _ (simp (length-append, length-drop) (omega (arith, length-take-le k xs (omega arith))))

  -- the i-th lies at place (k + i) % N
  get_window : (i : ℕ) (d : X) → i < n → get_or (window k n xs) i d ≡ get_or xs ((k + i) % N) d
  get_window i d below =
      let length_tail = length-drop k xs in
      get_or-take n _ i d below ∙ elim (mod_wraps_once N (k + i) (omega arith)) [
        | inl straight ↦ get_or_append_left _ _ d i (omega arith) ∙ get_or-drop k xs i d ∙ ap (λ j. get_or xs j d) (omega arith)
        | inr wrapped ↦ get_or-append_right _ _ (N - k) i d (omega arith) (omega arith) ∙ get_or-take k xs _ d (omega arith) ∙ ap (λ j. get_or xs j d) (omega arith)
      ]

-- these use the lemmas above at other windows
module _ {X : Type 0} (N k n : ℕ) (xs : List X) (start : k < N) (fits : n ≤ N) (size : length xs ≡ N) where
  -- what is written behind the last one comes at the end
  pub window_put : (x : X) → n < N → window k (n + 1) (set xs ((k + n) % N) x) ≡ window k n xs ++ x ∷ []
  window_put x room =
      let ys = set xs ((k + n) % N) x in
      let size_after = length-set xs ((k + n) % N) x ∙ size in
      let long_before = length_window N k n xs start fits size in
      let long_after = length_window N k (n + 1) ys start (omega arith) size_after in
      let place = mod_wraps_once N (k + n) (omega arith) in
      same_lists _ _ (grind (arith, common_steps)) (λ i d below. grind (
        arith,
        common_steps,
        mod_wraps_once N (k + i) (omega arith),
        get_window N k n xs start fits size i d,
        get_window N k (n + 1) ys start (omega arith) size_after i d,
      ))

  -- the first one lies at place k, and the others from the next place on
  pub window_take : (e : X) → 0 < n → window k n xs ≡ get_or xs k e ∷ window ((k + 1) % N) (n - 1) xs
  window_take e some =
      let next : (k + 1) % N < N = grind (arith, mod_wraps_once N (k + 1) (omega arith)) in
      let long_before = length_window N k n xs start fits size in
      let long_after = length_window N ((k + 1) % N) (n - 1) xs next (omega arith) size in
      let old = get_window N k n xs start fits size in
      drop_more _ 0 e (omega arith) ∙ ap₂ ◌∷◌ (grind (arith, old 0 e, mod_wraps_once N k)) (same_lists _ _ (simp length-drop (omega arith)) (λ i d below. grind (
        arith,
        length-drop 1 (window k n xs),
        get_or-drop 1 (window k n xs) i d,
        mod-add-mod (k + 1) N i,
        old (1 + i) d,
        get_window N _ (n - 1) xs next (omega arith) size i d,
      )))
