-- Who stands in a line.
use Rattle.std.proofs.Common.{◌≡◌, ◌⊎◌, ◌||◌, ℕ, Bool, true, false, not, cond, length, List, [], ◌∷◌, ◌++◌, Option, Some, None, nat_eq, refl, sym, ◌∙◌, subst, ap, inl, inr, arith, rules}
use Rattle.std.specs.Prelude.{◌==◌, option_to_list}
use Rattle.std.specs.List.{items_where_true, list_any}
use Rattle.std.specs.List.Retain.{IsFiltered}
use Rattle.std.proofs.lemmas.Bool.{eqb-true}
use Rattle.channels.specs.declared.waiting.Waiting.{Waiting}
use Rattle.channels.specs.Lines.{IsIn, has_other}

pub in-left : (xs ys : List Waiting) (w : Waiting) → IsIn xs w → IsIn (xs ++ ys) w
in-left [] ys w h = absurd h
in-left (x ∷ xs) ys w h = elim h [ inl a ↦ inl a | inr b ↦ inr (in-left xs ys w b) ]

pub in-right : (xs ys : List Waiting) (w : Waiting) → IsIn ys w → IsIn (xs ++ ys) w
in-right [] ys w h = h
in-right (x ∷ xs) ys w h = inr (in-right xs ys w h)

pub in-append : (xs ys : List Waiting) (w : Waiting) → IsIn (xs ++ ys) w → IsIn xs w ⊎ IsIn ys w
in-append [] ys w h = inr h
in-append (x ∷ xs) ys w h =
    elim h [ inl a ↦ inl (inl a) | inr b ↦ elim (in-append xs ys w b) [ inl l ↦ inl (inr l) | inr r ↦ inr r ] ]

pub none_there : (xs : List Waiting) → length xs ≡ 0 → xs ≡ []
none_there [] e = refl
none_there (x ∷ xs) e = absurd (omega arith)

-- who stands in a line after its oldest was taken stood there before
pub in-taken : (old new : List Waiting) (taken : Option Waiting) → old ≡ option_to_list taken ++ new → (w : Waiting) → IsIn new w → IsIn old w
in-taken old new taken is w h = subst (λ (l : List Waiting). IsIn l w) (sym is) (in-right (option_to_list taken) new w h)

in-where : (bs : List Bool) (xs : List Waiting) (w : Waiting) → IsIn (items_where_true bs xs) w → IsIn xs w
in-where [] [] w h = h
in-where [] (x ∷ xs) w h = absurd h
in-where (b ∷ bs) [] w h = h
in-where (true ∷ bs) (x ∷ xs) w h = elim h [ inl a ↦ inl a | inr later ↦ inr (in-where bs xs w later) ]
in-where (false ∷ bs) (x ∷ xs) w h = inr (in-where bs xs w h)

-- who stands in a line after it was sifted stood there before
pub in-sifted : {P : Type 0} (R : P → Waiting → Bool → P → Type 0) (p : P) (old new : List Waiting) → IsFiltered R p old new → (w : Waiting) → IsIn new w → IsIn old w
in-sifted R p old new f w h = in-where f.0 old w (subst (λ (l : List Waiting). IsIn l w) f.4 h)

not-other : (a b : ℕ) → not (a == b) ≡ false → a ≡ b
not-other a b e = grind (arith, rules)

or-left : (a b : Bool) → a || b ≡ false → a ≡ false
or-left true b e = absurd cc
or-left false b e = refl

or-right : (a b : Bool) → a || b ≡ false → b ≡ false
or-right true b e = absurd cc
or-right false b e = e

-- where nobody of another ticket stands, each has this one
pub of-ticket : (ticket : ℕ) (xs : List Waiting) (w : Waiting) → has_other ticket xs ≡ false → IsIn xs w → w.ticket ≡ ticket
of-ticket ticket [] w none h = absurd h
of-ticket ticket (x ∷ xs) w none h =
    elim h [
      | inl is ↦ sym (ap (λ (y : Waiting). y.ticket) is) ∙ not-other x.ticket ticket (or-left (not (x.ticket == ticket)) (has_other ticket xs) none)
      | inr later ↦ of-ticket ticket xs w (or-right (not (x.ticket == ticket)) (has_other ticket xs) none) later
    ]
