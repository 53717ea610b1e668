-- Lists that grow at the end.
use Rattle.std.proofs.Common.{◌≡◌, ◌⊎◌, ℕ, zero, suc, ◌<◌, ◌≤◌, List, [], ◌∷◌, ◌++◌, length, take, replicate, get_or, slice_get, Option, Some, None, Contains, refl, arith, inl, inr, ⊎_elim}
use Rattle.std.proofs.lemmas.Bool.{cases_lt}
use Rattle.std.proofs.lemmas.List.Elements.{Contains-append_left, Contains-append_right, Contains-append_cases}
use Rattle.std.proofs.lemmas.List.{take-append-le, take_at, get_or-replicate, get_or_past, length-replicate}
use Rattle.std.proofs.lemmas.Option.{none-some}

pub slice_get-first : {A : Type 0} (xs ys : List A) (k : ℕ) → k < length xs → slice_get (xs ++ ys) k ≡ slice_get xs k
slice_get-first [] ys k lt = absurd (omega (arith, lt))
slice_get-first (x ∷ xs) ys zero lt = refl
slice_get-first (x ∷ xs) ys (suc k) lt = slice_get-first xs ys k (omega (arith, lt))

pub slice_get-middle : {A : Type 0} (xs ys : List A) (y : A) → slice_get (xs ++ y ∷ ys) (length xs) ≡ Some y
slice_get-middle [] ys y = refl
slice_get-middle (x ∷ xs) ys y = slice_get-middle xs ys y

pub slice_get-last : {A : Type 0} (xs : List A) (y : A) → slice_get (xs ++ y ∷ []) (length xs) ≡ Some y
slice_get-last xs y = slice_get-middle xs [] y

-- what stands in a list with one more element: it stood there before, or it is the last
pub slice_get-more : {A : Type 0} (xs : List A) (y z : A) (k : ℕ) → slice_get (xs ++ y ∷ []) k ≡ Some z → ((k < length xs) × (slice_get xs k ≡ Some z)) ⊎ ((k ≡ length xs) × (y ≡ z))
slice_get-more [] y z zero e = inr (refl, cc)
slice_get-more [] y z (suc k) e = absurd (none-some z e)
slice_get-more (x ∷ xs) y z zero e = inl (omega arith, e)
slice_get-more (x ∷ xs) y z (suc k) e = elim (slice_get-more xs y z k e) [
  | inl h ↦ inl (omega (arith, h.0), h.1)
  | inr h ↦ inr (omega (arith, h.0), h.1)
]

pub take-first : {A : Type 0} (k : ℕ) (xs : List A) (y : A) → k ≤ length xs → take k (xs ++ y ∷ []) ≡ take k xs
take-first k xs y le = take-append-le k xs (y ∷ []) le

pub take-whole : {A : Type 0} (xs : List A) (y : A) → take (length xs) (xs ++ y ∷ []) ≡ xs
take-whole xs y = take_at xs (y ∷ []) (length xs) refl

-- what is contained in a list with one more element
only : {A : Type 0} (y z : A) → Contains (y ∷ []) z → y ≡ z
only y z (zero, within, is) = is
only y z (suc k, within, is) = absurd (omega (arith, within))

pub contains-before : {A : Type 0} (xs : List A) (y z : A) → Contains xs z → Contains (xs ++ y ∷ []) z
contains-before xs y z h = Contains-append_left xs (y ∷ []) z h

pub contains-last : {A : Type 0} (xs : List A) (y : A) → Contains (xs ++ y ∷ []) y
contains-last xs y = Contains-append_right xs (y ∷ []) y (0, omega arith, refl)

pub contains-cases : {A : Type 0} (xs : List A) (y z : A) → Contains (xs ++ y ∷ []) z → Contains xs z ⊎ (y ≡ z)
contains-cases xs y z h = ⊎_elim (λ before. inl before) (λ last. inr (only y z last)) (Contains-append_cases xs (y ∷ []) z h)

-- 256 places with nothing in them
pub nothing-there : {A : Type 0} (k : ℕ) → get_or (replicate {A = Option A} 256 None) k None ≡ None
nothing-there {A} k = ⊎_elim
    (λ lt. get_or-replicate {A = Option A} 256 k None None lt)
    (λ ge. get_or_past {X = Option A} (replicate 256 None) k None (omega (arith, ge, length-replicate {A = Option A} 256 None)))
    (cases_lt k 256)
