-- Who stands in a list, and in what order.
use Rattle.std.proofs.Common.{◌≡◌, ◌≤◌, ℕ, Bool, true, false, cond, List, [], ◌∷◌, ◌++◌, Option, Some, None, refl, sym, ◌∙◌, subst, ap, arith, inl, inr, eq-eqb}
use Rattle.std.specs.Prelude.{filter}
use Rattle.std.specs.List.{slice_get}
use Rattle.std.proofs.lemmas.Bool.{eqb-true}
use Rattle.channels.specs.declared.waiting.Waiting.{Waiting}
use Rattle.channels.specs.declared.waiting.Side.{Side}
use Rattle.channels.specs.declared.waiting.Side.TheVariants.{Send, Receive}
use Rattle.channels.specs.Lines.{IsIn}
use Rattle.channels.specs.States.{State as Channel, line, with_line}
use Rattle.engine.specs.declared.offers.Offer.{Offer}
use Rattle.engine.specs.States.{Sync}
use Rattle.engine.specs.Lines.{IsOrdered, Sifts, WaitsAt, is_its, lives}

pub ordered-from : (low least : ℕ) (xs : List Waiting) → least ≤ low → IsOrdered low xs → IsOrdered least xs
ordered-from low least [] le h = tt
ordered-from low least (x ∷ xs) le h = (let a = h.0 in omega arith, h.1)

pub ordered-least : (low : ℕ) (xs : List Waiting) (e : Waiting) → IsOrdered low xs → IsIn xs e → low ≤ e.ticket
ordered-least low [] e h i = absurd i
ordered-least low (x ∷ xs) e h i =
    let first = h.0 in
    elim i [
      | inl a ↦ let is = ap (λ (y : Waiting). y.ticket) a in omega arith
      | inr b ↦ let rest = ordered-least x.ticket xs e h.1 b in omega arith
    ]

pub ordered-rest : (low : ℕ) (xs ys : List Waiting) → IsOrdered low (xs ++ ys) → IsOrdered low ys
ordered-rest low [] ys h = h
ordered-rest low (x ∷ xs) ys h = ordered-from x.ticket low ys h.0 (ordered-rest x.ticket xs ys h.1)

pub ordered-push : (low : ℕ) (xs : List Waiting) (e : Waiting) → IsOrdered low xs → low ≤ e.ticket → ((x : Waiting) → IsIn xs x → x.ticket ≤ e.ticket) → IsOrdered low (xs ++ e ∷ [])
ordered-push low [] e h le older = (le, tt)
ordered-push low (x ∷ xs) e h le older = (h.0, ordered-push x.ticket xs e h.1 (older x (inl refl)) (λ y i. older y (inr i)))

in-cond : (b : Bool) (x e : Waiting) (ys : List Waiting) → IsIn (cond b (x ∷ ys) ys) e → IsIn (x ∷ ys) e
in-cond true x e ys h = h
in-cond false x e ys h = inr h

in-cond-rest : (b : Bool) (x e : Waiting) (ys : List Waiting) → IsIn ys e → IsIn (cond b (x ∷ ys) ys) e
in-cond-rest true x e ys h = inr h
in-cond-rest false x e ys h = h

in-cond-first : (b : Bool) (x e : Waiting) (ys : List Waiting) → b ≡ true → x ≡ e → IsIn (cond b (x ∷ ys) ys) e
in-cond-first true x e ys t is = inl is
in-cond-first false x e ys t is = absurd cc

ordered-cond : (b : Bool) (low : ℕ) (x : Waiting) (ys : List Waiting) → low ≤ x.ticket → IsOrdered x.ticket ys → IsOrdered low (cond b (x ∷ ys) ys)
ordered-cond true low x ys le h = (le, h)
ordered-cond false low x ys le h = ordered-from x.ticket low ys le h

in-filter-from : (p : Waiting → Bool) (xs : List Waiting) (e : Waiting) → IsIn (filter p xs) e → IsIn xs e
in-filter-from p [] e h = h
in-filter-from p (x ∷ xs) e h =
    elim (in-cond (p x) x e (filter p xs) h) [ inl a ↦ inl a | inr b ↦ inr (in-filter-from p xs e b) ]

in-filter : (p : Waiting → Bool) (xs : List Waiting) (e : Waiting) → IsIn xs e → p e ≡ true → IsIn (filter p xs) e
in-filter p [] e h t = absurd h
in-filter p (x ∷ xs) e h t =
    elim h [
      | inl a ↦ in-cond-first (p x) x e (filter p xs) (ap p a ∙ t) a
      | inr b ↦ in-cond-rest (p x) x e (filter p xs) (in-filter p xs e b t)
    ]

ordered-filter : (p : Waiting → Bool) (low : ℕ) (xs : List Waiting) → IsOrdered low xs → IsOrdered low (filter p xs)
ordered-filter p low [] h = tt
ordered-filter p low (x ∷ xs) h = ordered-cond (p x) low x (filter p xs) h.0 (ordered-filter p x.ticket xs h.1)

pub sifts-filter : (places : List (Option Sync)) (xs ys : List Waiting) → ys ≡ filter (lives places) xs → Sifts places xs ys
sifts-filter places xs ys is = record {
  from = λ e h. in-filter-from (lives places) xs e (subst (λ (l : List Waiting). IsIn l e) is h);
  live = λ e h t. subst (λ (l : List Waiting). IsIn l e) (sym is) (in-filter (lives places) xs e h t);
  order = λ low h. subst (λ (l : List Waiting). IsOrdered low l) (sym is) (ordered-filter (lives places) low xs h);
}

-- A SYNC THAT WAITS, AND ENTRIES OF IT

pub its-true : (s : Option (Option Sync)) (g : ℕ) → is_its s g ≡ true → (offers : List Offer) × (s ≡ Some (Some (record { generation = g; offers = offers })))
its-true None g e = absurd cc
its-true (Some None) g e = absurd cc
its-true (Some (Some sync)) g e =
    let is : sync.generation ≡ g = eqb-true sync.generation g e in
    (sync.offers, ap (λ (n : ℕ). Some (Some (record { generation = n; offers = sync.offers }))) is)

pub lives-waits : (places : List (Option Sync)) (e : Waiting) → lives places e ≡ true → (offers : List Offer) × WaitsAt places e.who.place (record { generation = e.ticket; offers = offers })
lives-waits places e h = its-true (slice_get places e.who.place) e.ticket h

pub waits-lives : (places : List (Option Sync)) (e : Waiting) (offers : List Offer) → WaitsAt places e.who.place (record { generation = e.ticket; offers = offers }) → lives places e ≡ true
waits-lives places e offers w = ap (λ (s : Option (Option Sync)). is_its s e.ticket) w ∙ eq-eqb e.ticket e.ticket refl

-- a line of a channel changed twice
pub with-line-then : (side : Side) (first mid last : Channel) → mid ≡ with_line side first (line side mid) → last ≡ with_line side mid (line side last) → last ≡ with_line side first (line side last)
with-line-then Send first mid last a b = b ∙ ap (λ (c : Channel). with_line Send c last.sends) a
with-line-then Receive first mid last a b = b ∙ ap (λ (c : Channel). with_line Receive c last.receives) a
