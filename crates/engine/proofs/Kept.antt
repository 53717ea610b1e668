-- What stands at the places of a list, and is shown of it.
use Rattle.std.proofs.Common.{◌≡◌, ◌≢◌, ◌⊎◌, ◌<◌, ◌&&◌, ℕ, suc, zero, Bool, true, false, List, [], ◌∷◌, Option, Some, None, map, nat_eq, set, get_or, length, refl, sym, ◌∙◌, subst, ap, arith, rules, inl, inr, eq-eqb}
use Rattle.std.specs.List.{slice_get}
use Rattle.std.specs.Option.{option_map}
use Rattle.std.proofs.lemmas.Bool.{cases_eq, eqb-true}
use Rattle.std.proofs.lemmas.List.{map-set}
use Rattle.std.proofs.lemmas.Option.{same_Some, slice_get-map, slice_get_read, slice_get_within}
use Rattle.engine.specs.declared.places.Slot.{Slot}
use Rattle.engine.specs.Places.{Empties, IsFree, holds, is_since, kept, kept_since, only, shown}
use Rattle.engine.proofs.Lists.{get-set-same, get-set-other}

-- the slot at this place is in use since this generation
pub record IsAt {T : Type 0} (slots : List (Slot T)) (index generation : ℕ) : Type 0 where
  pub slot : Slot T
  pub at : slice_get slots index ≡ Some slot
  pub used : slot.used ≡ true
  pub since : slot.generation ≡ generation

pub and-true : (a b : Bool) → a && b ≡ true → (a ≡ true) × (b ≡ true)
and-true true b e = (refl, e)
and-true false b e = absurd cc

and-false : (a b : Bool) → b ≡ false → a && b ≡ false
and-false true b e = e
and-false false b e = refl

neq-false : (a b : ℕ) → a ≢ b → nat_eq a b ≡ false
neq-false a b ne = grind (arith, rules)

only-some : {B : Type 0} (b : Bool) (x y : B) → only b x ≡ Some y → (b ≡ true) × (x ≡ y)
only-some true x y e = (refl, same_Some _ _ e)
only-some false x y e = absurd cc

is-since : {T : Type 0} (slot : Slot T) (g : ℕ) → slot.used ≡ true → slot.generation ≡ g → slot.used && nat_eq slot.generation g ≡ true
is-since slot g used since = ap (λ (b : Bool). b && nat_eq slot.generation g) used ∙ eq-eqb slot.generation g since

-- WHAT IS HELD

pub holds-at : {T : Type 0} (slots : List (Slot T)) (i g : ℕ) → holds slots i g ≡ true → IsAt slots i g
holds-at [] i g e = absurd cc
holds-at (s ∷ slots) zero g e = let both = and-true s.used (nat_eq s.generation g) e in record { slot = s; at = refl; used = both.0; since = eqb-true s.generation g both.1 }
holds-at (s ∷ slots) (suc i) g e = let x = holds-at slots i g e in record { slot = x.slot; at = x.at; used = x.used; since = x.since }

pub at-holds : {T : Type 0} (slots : List (Slot T)) (i g : ℕ) → IsAt slots i g → holds slots i g ≡ true
at-holds {T} slots i g x = ap (λ (o : Option (Slot T)). is_since g o) x.at ∙ is-since x.slot g x.used x.since

-- WHAT IS KEPT

pub kept-at : {T : Type 0} (slots : List (Slot T)) (i g : ℕ) (slot : Slot T) → slice_get slots i ≡ Some slot → slot.used ≡ true → slot.generation ≡ g → kept slots i g ≡ Some slot.value
kept-at {T} slots i g slot at used since = ap (λ (o : Option (Slot T)). kept_since g o) at ∙ ap (λ (b : Bool). only b slot.value) (is-since slot g used since)

pub kept-some : {T : Type 0} (slots : List (Slot T)) (i g : ℕ) (v : T) → kept slots i g ≡ Some v → (x : IsAt slots i g) × (x.slot.value ≡ v)
kept-some [] i g v e = absurd cc
kept-some (s ∷ slots) zero g v e =
    let o = only-some (s.used && nat_eq s.generation g) s.value v e in
    let both = and-true s.used (nat_eq s.generation g) o.0 in
    (record { slot = s; at = refl; used = both.0; since = eqb-true s.generation g both.1 }, o.1)
kept-some (s ∷ slots) (suc i) g v e =
    let x = kept-some slots i g v e in (record { slot = x.0.slot; at = x.0.at; used = x.0.used; since = x.0.since }, x.1)

pub kept-other-generation : {T : Type 0} (slots : List (Slot T)) (i g : ℕ) (slot : Slot T) → slice_get slots i ≡ Some slot → slot.generation ≢ g → kept slots i g ≡ None
kept-other-generation {T} slots i g slot at ne =
    ap (λ (o : Option (Slot T)). kept_since g o) at ∙ ap (λ (b : Bool). only b slot.value) (and-false slot.used (nat_eq slot.generation g) (neq-false slot.generation g ne))

pub kept-unused : {T : Type 0} (slots : List (Slot T)) (i g : ℕ) (slot : Slot T) → slice_get slots i ≡ Some slot → slot.used ≡ false → kept slots i g ≡ None
kept-unused {T} slots i g slot at unused =
    ap (λ (o : Option (Slot T)). kept_since g o) at ∙ ap (λ (b : Bool). only (b && nat_eq slot.generation g) slot.value) unused

pub kept-set-other : {T : Type 0} (slots : List (Slot T)) (i j g : ℕ) (slot : Slot T) → j ≢ i → kept (set slots i slot) j g ≡ kept slots j g
kept-set-other {T} slots i j g slot ne = ap (λ (o : Option (Slot T)). kept_since g o) (get-set-other slots i j slot ne)

-- what is kept elsewhere, or was kept there before, does not change with the slot
pub kept-others : {T : Type 0} (slots : List (Slot T)) (i g : ℕ) (was now : Slot T) → slice_get slots i ≡ Some was → (was.used ≡ false) ⊎ (was.generation ≡ g) → (now.used ≡ false) ⊎ (now.generation ≡ g)
    → (j h : ℕ) → (j ≡ i → h ≢ g) → kept (set slots i now) j h ≡ kept slots j h
kept-others slots i g was now at before after j h ne =
    elim (cases_eq j i) [
      | inl e ↦
          let here = get-set-same slots i was now at in
          let now_none : kept (set slots i now) i h ≡ None =
          elim after [
            | inl unused ↦ kept-unused (set slots i now) i h now here unused
            | inr age ↦ kept-other-generation (set slots i now) i h now here (λ s. ne e (sym s ∙ age))
          ] in
          let was_none : kept slots i h ≡ None =
          elim before [
            | inl unused ↦ kept-unused slots i h was at unused
            | inr age ↦ kept-other-generation slots i h was at (λ s. ne e (sym s ∙ age))
          ] in
          subst (λ (n : ℕ). kept (set slots i now) n h ≡ kept slots n h) (sym e) (now_none ∙ sym was_none)
      | inr other ↦ kept-set-other slots i j h now other
    ]

-- where the same is kept, the same is in use
pub same-at : {T : Type 0} (xs ys : List (Slot T)) (i g : ℕ) → kept ys i g ≡ kept xs i g → (y : IsAt ys i g) → (x : IsAt xs i g) × (x.slot.value ≡ y.slot.value)
same-at xs ys i g same y = kept-some xs i g y.slot.value (sym same ∙ kept-at ys i g y.slot y.at y.used y.since)

-- a slot that was read is the one in use
pub slot-at : {T : Type 0} (slots : List (Slot T)) (i g : ℕ) (slot : Slot T) → IsAt slots i g → slot ≡ get_or slots i slot → (x : IsAt slots i g) × (x.slot ≡ slot)
slot-at {T} slots i g slot y is =
    let at = slice_get_read slots (length slots) i slot refl (slice_get_within slots i y.slot y.at) is in
    let same = same_Some _ _ (sym y.at ∙ at) in
    (record { slot = slot; at = at; used = subst (λ (s : Slot T). s.used ≡ true) same y.used; since = subst (λ (s : Slot T). s.generation ≡ g) same y.since }, refl)

pub at-within : {T : Type 0} (slots : List (Slot T)) (i g : ℕ) → IsAt slots i g → i < length slots
at-within slots i g x = slice_get_within slots i x.slot x.at

-- a place in use was freed
pub closes-kept : {T : Type 0} (xs ys : List (Slot T)) (i g : ℕ) → IsAt xs i g → Empties xs ys i → (kept ys i g ≡ None) × ((j h : ℕ) → (j ≡ i → h ≢ g) → kept ys j h ≡ kept xs j h)
closes-kept {T} xs ys i g x e =
    let here = get-set-same xs i x.slot e.slot x.at in (
      ap (λ (l : List (Slot T)). kept l i g) e.is ∙ kept-unused (set xs i e.slot) i g e.slot here e.unused,
      λ j h ne. ap (λ (l : List (Slot T)). kept l j h) e.is ∙ kept-others xs i g x.slot e.slot x.at (inr x.since) (inl e.unused) j h ne,
    )

-- WHAT IS SHOWN

pub shown-at : {T B : Type 0} (f : ℕ → T → B) (slots : List (Slot T)) (i : ℕ) (slot : Slot T) → slice_get slots i ≡ Some slot → slot.used ≡ true
    → slice_get (map (shown f) slots) i ≡ Some (Some (f slot.generation slot.value))
shown-at {T} {B} f slots i slot at used =
    slice_get-map (shown f) slots i ∙ (ap (λ (o : Option (Slot T)). option_map (shown f) o) at ∙ ap (λ (b : Bool). Some (only b (f slot.generation slot.value))) used)

pub shown-free : {T B : Type 0} (f : ℕ → T → B) (slots : List (Slot T)) (i : ℕ) (slot : Slot T) → slice_get slots i ≡ Some slot → slot.used ≡ false
    → slice_get (map (shown f) slots) i ≡ Some None
shown-free {T} {B} f slots i slot at unused =
    slice_get-map (shown f) slots i ∙ (ap (λ (o : Option (Slot T)). option_map (shown f) o) at ∙ ap (λ (b : Bool). Some (only b (f slot.generation slot.value))) unused)

pub shown-slot : {T B : Type 0} (f : ℕ → T → B) (slots : List (Slot T)) (i : ℕ) (b : B) → slice_get (map (shown f) slots) i ≡ Some (Some b)
    → (slot : Slot T) × (slice_get slots i ≡ Some slot) × (slot.used ≡ true) × (f slot.generation slot.value ≡ b)
shown-slot f [] i b e = absurd cc
shown-slot f (s ∷ slots) zero b e = let o = only-some s.used (f s.generation s.value) b (same_Some _ _ e) in (s, refl, o.0, o.1)
shown-slot f (s ∷ slots) (suc i) b e = shown-slot f slots i b e

-- a slot of which the same is shown was written
pub shown-same : {T B : Type 0} (f : ℕ → T → B) (slots : List (Slot T)) (i : ℕ) (was now : Slot T) → slice_get slots i ≡ Some was → shown f now ≡ shown f was
    → map (shown f) (set slots i now) ≡ map (shown f) slots
shown-same f [] i was now at e = refl
shown-same f (s ∷ slots) zero was now at e =
    ap (λ x. x ∷ map (shown f) slots) (e ∙ sym (ap (shown f) (same_Some _ _ at)))
shown-same f (s ∷ slots) (suc i) was now at e = ap (λ l. shown f s ∷ l) (shown-same f slots i was now at e)

-- a slot was freed
pub shown-emptied : {T B : Type 0} (f : ℕ → T → B) (slots : List (Slot T)) (i : ℕ) (slot : Slot T) → slot.used ≡ false → map (shown f) (set slots i slot) ≡ set (map (shown f) slots) i None
shown-emptied f slots i slot unused =
    map-set (shown f) slots i slot ∙ ap (λ s. set (map (shown f) slots) i s) (ap (λ (b : Bool). only b (f slot.generation slot.value)) unused)

-- a slot was put in use
pub shown-filled : {T B : Type 0} (f : ℕ → T → B) (slots : List (Slot T)) (i : ℕ) (slot : Slot T) → slot.used ≡ true
    → map (shown f) (set slots i slot) ≡ set (map (shown f) slots) i (Some (f slot.generation slot.value))
shown-filled f slots i slot used =
    map-set (shown f) slots i slot ∙ ap (λ s. set (map (shown f) slots) i s) (ap (λ (b : Bool). only b (f slot.generation slot.value)) used)

-- a slot that was read is the free one
pub free-slot : {T : Type 0} (slots : List (Slot T)) (i : ℕ) (slot : Slot T) → IsFree slots i → slot ≡ get_or slots i slot → (slice_get slots i ≡ Some slot) × (slot.used ≡ false)
free-slot {T} slots i slot y is =
    let at = slice_get_read slots (length slots) i slot refl (slice_get_within slots i y.slot y.at) is in
    (at, subst (λ (s : Slot T). s.used ≡ false) (same_Some _ _ (sym y.at ∙ at)) y.unused)
