-- The hands of a table, one for each pass.
use Rattle.std.proofs.Common.{◌≡◌, ◌++◌, ◌∙◌, ◌∷◌, List, [], ap, map, option_map, refl, subst, ℕ}
use Rattle.std.specs.Prelude.{IfOk, Ok, Err, Result, Some, slice_get}
use Rattle.std.proofs.lemmas.Option.{get_or_from_slice_get, slice_get-map, slice_get_within}
use Rattle.protocol_ledger.specs.Openings.{start_opening}
use Rattle.cell.specs.Calls.{Grid, PassView}
use Rattle.cell_hand.specs.Calls.{AreHands, IsDealt}
use Rattle.cell_table.specs.Rule.{dealt_from, seen_nothing}
use Rattle.cell_hand.specs.Hands.{HandOf}

abbrev pub passes_of : List HandOf → List PassView
passes_of hands = map (λ h. h.pass) hands

-- what a list maps to, with one more at its end
pub one_more : {A B : Type 0} (f : A → B) (xs : List A) (x : A) (rest : List B) → map f (xs ++ x ∷ []) ++ rest ≡ map f xs ++ f x ∷ rest
one_more f [] x rest = refl
one_more f (y ∷ xs) x rest = ap (λ (ys : List _). f y ∷ ys) (one_more f xs x rest)

pub ok_then : {X E : Type 0} {P Q : X → Type 0} (r : Result X E) → ((x : X) → P x → Q x) → IfOk r P → IfOk r Q
ok_then (Ok x) f p = f x p
ok_then (Err e) f p = p

pub dealt : (threads rows offers later passes : ℕ) (table : Grid) (ps : List PassView) → table.threads ≡ threads → table.rows ≡ rows → table.layout.offers ≡ offers → table.passes ≡ passes
    → ((number : ℕ) (p : PassView) → slice_get ps number ≡ Some p → (p.seen ≡ seen_nothing (dealt_from (start_opening threads later) threads passes number)) × (p.made ≡ []))
    → (hands : List HandOf) → AreHands table ps hands → (number : ℕ) (h : HandOf) → slice_get hands number ≡ Some h → IsDealt threads rows offers later passes number h
dealt threads rows offers later passes table ps t r o p first hands are number h e =
    let same : h.table ≡ table =
    subst (λ (k : HandOf). k.table ≡ table) (get_or_from_slice_get hands number h h e) (are.1 number h (slice_get_within hands number h e)) in
    let pass : slice_get ps number ≡ Some h.pass =
    subst (λ (l : List PassView). slice_get l number ≡ Some h.pass) are.0 (slice_get-map (λ (k : HandOf). k.pass) hands number ∙ ap (option_map (λ (k : HandOf). k.pass)) e) in
    let what = first number h.pass pass in
    (ap (λ (g : Grid). g.threads) same ∙ t, ap (λ (g : Grid). g.rows) same ∙ r, ap (λ (g : Grid). g.layout.offers) same ∙ o, ap (λ (g : Grid). g.passes) same ∙ p, what.0, what.1)
