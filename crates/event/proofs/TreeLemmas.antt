-- Laws of event trees: how many base events there are, the wraps of each, and the bits of a mask.
use Rattle.std.proofs.Common.{◌≡◌, ℕ, zero, suc, ◌+◌, ◌<◌, ◌↔◌, max, List, [], ◌∷◌, ◌++◌, map, length, get_or, slice_get, Contains, Option, Some, None, ◌^◌, refl, sym, ap, ◌∙◌, arith, ⊎_elim}
use Rattle.std.specs.Int.{bit_at}
use Rattle.std.specs.Option.{option_map}
use Rattle.std.proofs.lemmas.Bool.{cases_eq}
use Rattle.std.proofs.lemmas.List.{length-append, length-map, map-append}
use Rattle.std.proofs.lemmas.List.Elements.{Contains-append_left, Contains-append_right, Contains-append_cases}
use Rattle.std.proofs.lemmas.Nat.Bits.{bit_at_or, bit_at-lt, bit_at-zero, bit_at-pow_same, bit_at-pow_other}
use Rattle.std.proofs.lemmas.Option.{slice_get-map, none-some}
use Rattle.event.specs.Tree.{Tree, Single, Nothing, Or, Wrap, Scope, BaseEvent, with_wrap, with_scope, bases_from, bases, base_count, scope_count, scope_nacks, mask, IsMaskOf, wraps_at}

-- LISTS

pub map-same : {A B : Type 0} (f g : A → B) → ((x : A) → f x ≡ g x) → (xs : List A) → map f xs ≡ map g xs
map-same f g same [] = refl
map-same f g same (x ∷ xs) = ap (λ y. y ∷ map f xs) (same x) ∙ ap (λ ys. g x ∷ ys) (map-same f g same xs)

pub map-map : {A B C : Type 0} (f : B → C) (g : A → B) (xs : List A) → map f (map g xs) ≡ map (λ x. f (g x)) xs
map-map f g [] = refl
map-map f g (x ∷ xs) = ap (λ ys. f (g x) ∷ ys) (map-map f g xs)

slice_get-first : {A : Type 0} (xs ys : List A) (n : ℕ) (x : A) → slice_get xs n ≡ Some x → slice_get (xs ++ ys) n ≡ Some x
slice_get-first [] ys n x e = absurd (none-some x e)
slice_get-first (y ∷ xs) ys zero x e = e
slice_get-first (y ∷ xs) ys (suc n) x e = slice_get-first xs ys n x e

slice_get-second : {A : Type 0} (xs ys : List A) (n : ℕ) → slice_get (xs ++ ys) (length xs + n) ≡ slice_get ys n
slice_get-second [] ys n = ap (slice_get ys) (omega arith)
slice_get-second (x ∷ xs) ys n =
    let more : suc (length xs) + n ≡ suc (length xs + n) = omega arith in
    ap (slice_get (x ∷ (xs ++ ys))) more ∙ slice_get-second xs ys n

-- NUMBERS OF BASE EVENTS

-- how the scopes are numbered does not matter to the number of base events
pub length-bases_from : (n m : ℕ) (t : Tree) → length (bases_from n t) ≡ length (bases_from m t)
length-bases_from n m (Single base) = refl
length-bases_from n m Nothing = refl
length-bases_from n m (Or a b) =
    length-append (bases_from n a) _ ∙ ap (λ k. k + length (bases_from (n + scope_count a) b)) (length-bases_from n m a)
    ∙ ap (λ k. length (bases_from m a) + k) (length-bases_from (n + scope_count a) (m + scope_count a) b)
    ∙ sym (length-append (bases_from m a) _)
length-bases_from n m (Wrap wrap t) =
    length-map _ (with_wrap wrap) ∙ length-bases_from n m t ∙ sym (length-map _ (with_wrap wrap))
length-bases_from n m (Scope nack t) =
    length-map _ (with_scope n) ∙ length-bases_from (n + 1) (m + 1) t ∙ sym (length-map _ (with_scope m))

pub base_count-Or : (a b : Tree) → base_count (Or a b) ≡ base_count a + base_count b
base_count-Or a b =
    length-append (bases a) _ ∙ ap (λ k. base_count a + k) (length-bases_from (0 + scope_count a) 0 b)

pub base_count-Wrap : (wrap : ℕ) (t : Tree) → base_count (Wrap wrap t) ≡ base_count t
base_count-Wrap wrap t = length-map _ (with_wrap wrap)

pub base_count-Scope : (nack : ℕ) (t : Tree) → base_count (Scope nack t) ≡ base_count t
base_count-Scope nack t = length-map _ (with_scope 0) ∙ length-bases_from (0 + 1) 0 t

pub scope_count-Or : (a b : Tree) → scope_count (Or a b) ≡ scope_count a + scope_count b
scope_count-Or a b = length-append (scope_nacks a) (scope_nacks b)

-- WRAPS

abbrev wrap_lists : ℕ → Tree → List (List ℕ)
wrap_lists next t = map (λ b. b.wraps) (bases_from next t)

-- how the scopes are numbered does not matter to the wraps
wrap_lists-same : (n m : ℕ) (t : Tree) → wrap_lists n t ≡ wrap_lists m t
wrap_lists-same n m (Single base) = refl
wrap_lists-same n m Nothing = refl
wrap_lists-same n m (Or a b) =
    map-append (λ b. b.wraps) (bases_from n a) _ ∙ ap (λ ws. ws ++ wrap_lists (n + scope_count a) b) (wrap_lists-same n m a)
    ∙ ap (λ ws. wrap_lists m a ++ ws) (wrap_lists-same (n + scope_count a) (m + scope_count a) b)
    ∙ sym (map-append (λ b. b.wraps) (bases_from m a) _)
wrap_lists-same n m (Wrap w t) =
    wrap_lists-Wrap n ∙ ap (map (λ ws. ws ++ w ∷ [])) (wrap_lists-same n m t) ∙ sym (wrap_lists-Wrap m)
  where
    wrap_lists-Wrap : (k : ℕ) → wrap_lists k (Wrap w t) ≡ map (λ ws. ws ++ w ∷ []) (wrap_lists k t)
    wrap_lists-Wrap k =
        map-map (λ b. b.wraps) (with_wrap w) (bases_from k t)
        ∙ sym (map-map (λ ws. ws ++ w ∷ []) (λ b. b.wraps) (bases_from k t))
wrap_lists-same n m (Scope k t) =
    map-map (λ b. b.wraps) (with_scope n) (bases_from (n + 1) t) ∙ wrap_lists-same (n + 1) (m + 1) t
    ∙ sym (map-map (λ b. b.wraps) (with_scope m) (bases_from (m + 1) t))

wraps_at-lists : (t : Tree) (n : ℕ) → wraps_at t n ≡ slice_get (wrap_lists 0 t) n
wraps_at-lists t n = sym (slice_get-map (λ b. b.wraps) (bases t) n)

wrap_lists-Or : (a b : Tree) → wrap_lists 0 (Or a b) ≡ wrap_lists 0 a ++ wrap_lists 0 b
wrap_lists-Or a b =
    map-append (λ b. b.wraps) (bases a) _ ∙ ap (λ ws. wrap_lists 0 a ++ ws) (wrap_lists-same (0 + scope_count a) 0 b)

pub wraps_at-first : (a b : Tree) (n : ℕ) (wraps : List ℕ) → wraps_at a n ≡ Some wraps → wraps_at (Or a b) n ≡ Some wraps
wraps_at-first a b n wraps e =
    wraps_at-lists (Or a b) n ∙ ap (λ ws. slice_get ws n) (wrap_lists-Or a b)
    ∙ slice_get-first (wrap_lists 0 a) (wrap_lists 0 b) n wraps (sym (wraps_at-lists a n) ∙ e)

pub wraps_at-second : (a b : Tree) (n : ℕ) → wraps_at (Or a b) (base_count a + n) ≡ wraps_at b n
wraps_at-second a b n =
    wraps_at-lists (Or a b) (base_count a + n) ∙ ap (λ ws. slice_get ws (base_count a + n)) (wrap_lists-Or a b)
    ∙ ap (λ k. slice_get (wrap_lists 0 a ++ wrap_lists 0 b) (k + n)) (sym (length-map (bases a) (λ b. b.wraps)))
    ∙ slice_get-second (wrap_lists 0 a) (wrap_lists 0 b) n ∙ sym (wraps_at-lists b n)

pub wraps_at-Wrap : (wrap : ℕ) (t : Tree) (n : ℕ) → wraps_at (Wrap wrap t) n ≡ option_map (λ ws. ws ++ wrap ∷ []) (wraps_at t n)
wraps_at-Wrap wrap t n = ap (option_map (λ b. b.wraps)) (slice_get-map (with_wrap wrap) (bases t) n) ∙ both (slice_get (bases t) n)
  where
    both : (o : Option BaseEvent) →
        option_map (λ b. b.wraps) (option_map (with_wrap wrap) o) ≡ option_map (λ ws. ws ++ wrap ∷ []) (option_map (λ b. b.wraps) o)
    both None = refl
    both (Some b) = refl

pub wraps_at-Scope : (nack : ℕ) (t : Tree) (n : ℕ) → wraps_at (Scope nack t) n ≡ wraps_at t n
wraps_at-Scope nack t n =
    wraps_at-lists (Scope nack t) n
    ∙ ap (λ ws. slice_get ws n) (map-map (λ b. b.wraps) (with_scope 0) (bases_from (0 + 1) t) ∙ wrap_lists-same (0 + 1) 0 t)
    ∙ sym (wraps_at-lists t n)

-- MASKS

-- one more scope sets one more bit
module _ (s : ℕ) (scopes : List ℕ) (scope : ℕ) (rest : (bit_at (mask scopes) scope ≡ 1) ↔ Contains scopes scope) where
  bits : bit_at (mask (s ∷ scopes)) scope ≡ max (bit_at (2 ^ s) scope) (bit_at (mask scopes) scope)
  bits = bit_at_or (2 ^ s) (mask scopes) scope

  first : (k : ℕ) → k < 1 → get_or (s ∷ []) k scope ≡ scope → scope ≡ s
  first zero within is = sym is
  first (suc k) within is = absurd (omega (arith, within))

  bit-same : scope ≡ s → (bit_at (mask (s ∷ scopes)) scope ≡ 1) ↔ Contains (s ∷ scopes) scope
  bit-same e = (
    λ h. Contains-append_left (s ∷ []) scopes scope (0, omega arith, sym e),
    λ h. omega (arith, bits, ap (bit_at (2 ^ s)) e, bit_at-pow_same s, bit_at-lt (mask scopes) scope),
  )

  bit-other : (scope ≡ s → ⊥) → (bit_at (mask (s ∷ scopes)) scope ≡ 1) ↔ Contains (s ∷ scopes) scope
  bit-other differs = (
    λ h. Contains-append_right (s ∷ []) scopes scope (rest.0 (omega (arith, h, bits, bit_at-pow_other s scope differs))),
    λ h. ⊎_elim
        (λ (k, within, is). absurd (differs (first k within is)))
        (λ later. omega (arith, bits, bit_at-pow_other s scope differs, rest.1 later))
        (Contains-append_cases (s ∷ []) scopes scope h),
  )

-- a mask has just the bits of its list
pub mask-bits : (scopes : List ℕ) → IsMaskOf scopes (mask scopes)
mask-bits [] scope = (λ h. absurd (omega (arith, h, bit_at-zero scope)), λ (k, within, is). absurd (omega (arith, within)))
mask-bits (s ∷ scopes) scope =
    ⊎_elim (bit-same s scopes scope (mask-bits scopes scope)) (bit-other s scopes scope (mask-bits scopes scope)) (cases_eq scope s)
