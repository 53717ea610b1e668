-- The outcomes that are told, one after another.
use Rattle.std.proofs.Common.{◌≡◌, ℕ, ◌+◌, ◌<◌, Bool, true, false, if◌then◌else◌, List, [], ◌∷◌, ◌++◌, length, take, drop, get_or, Option, Some, None, sym, ap, ◌∙◌, arith, add-one}
use Rattle.std.specs.List.{enumerate_from, filter, find}
use Rattle.std.specs.Option.{option_or}
use Rattle.std.proofs.Math.Seq.{take-suc}
use Rattle.std.proofs.lemmas.List.{append-nil, length-take-le, take-append-drop}
use Rattle.std.proofs.lemmas.List.Elements.{filter-append}
use Rattle.std.proofs.lemmas.List.Folds.{find-append}
use Rattle.outcomes.specs.declared.Outcome.{Outcome}
use Rattle.outcomes.specs.declared.asked.Asked.{Asked}
use Rattle.pcml_outcomes.specs.Told.{is_shown, shown}

numbered-more : {A : Type 0} (n : ℕ) (xs : List A) (x : A) → enumerate_from n (xs ++ x ∷ []) ≡ enumerate_from n xs ++ (n + length xs, x) ∷ []
numbered-more n [] x = ap (λ (m : ℕ). (m, x) ∷ []) (omega arith)
numbered-more {A} n (y ∷ xs) x = ap (λ (l : List (ℕ × A)). (n, y) ∷ l) (numbered-more (n + 1) xs x ∙ ap (λ (m : ℕ). enumerate_from (n + 1) xs ++ (m, x) ∷ []) (omega arith))

-- what a turn has, one outcome more
pub taken-more : (xs : List Outcome) (k : ℕ) (o : Outcome) → k < length xs → o ≡ get_or xs k o → take (k + 1) xs ≡ take k xs ++ o ∷ []
taken-more xs k o within is = ap (λ (n : ℕ). take n xs) (add-one k) ∙ take-suc xs k o within ∙ ap (λ (p : Outcome). take k xs ++ p ∷ []) (sym is)

-- one outcome more, with its number where it is told
shown-more : (asked : Asked) (xs : List Outcome) (k : ℕ) (o : Outcome) → k < length xs → o ≡ get_or xs k o
    → shown asked (take (k + 1) xs) ≡ shown asked (take k xs) ++ (if is_shown asked o then (k + 1, o) ∷ [] else [])
shown-more asked xs k o within is =
    let test = λ (n : ℕ × Outcome). is_shown asked n.1 in
    let number : 1 + length (take k xs) ≡ k + 1 = ap (λ (n : ℕ). 1 + n) (length-take-le k xs (omega (arith, within))) ∙ omega arith in
    ap (shown asked) (taken-more xs k o within is)
    ∙ ap (filter test) (numbered-more 1 (take k xs) o)
    ∙ filter-append test (enumerate_from 1 (take k xs)) ((1 + length (take k xs), o) ∷ [])
    ∙ ap (λ (m : ℕ). shown asked (take k xs) ++ (if is_shown asked o then (m, o) ∷ [] else [])) number

pub shown-told : (asked : Asked) (xs : List Outcome) (k : ℕ) (o : Outcome) → k < length xs → o ≡ get_or xs k o → is_shown asked o ≡ true → shown asked (take (k + 1) xs) ≡ shown asked (take k xs) ++ (k + 1, o) ∷ []
shown-told asked xs k o within is told =
    shown-more asked xs k o within is ∙ ap (λ (b : Bool). shown asked (take k xs) ++ (if b then (k + 1, o) ∷ [] else [])) told

pub shown-hidden : (asked : Asked) (xs : List Outcome) (k : ℕ) (o : Outcome) → k < length xs → o ≡ get_or xs k o → is_shown asked o ≡ false → shown asked (take (k + 1) xs) ≡ shown asked (take k xs)
shown-hidden asked xs k o within is hidden =
    shown-more asked xs k o within is
    ∙ ap (λ (b : Bool). shown asked (take k xs) ++ (if b then (k + 1, o) ∷ [] else [])) hidden
    ∙ append-nil (shown asked (take k xs))

-- where the first ones are not told, one more
pub first-more : (asked : Asked) (xs : List Outcome) (k : ℕ) (o : Outcome) → k < length xs → o ≡ get_or xs k o → find (is_shown asked) (take k xs) ≡ None → is_shown asked o ≡ false
    → find (is_shown asked) (take (k + 1) xs) ≡ None
first-more asked xs k o within is none hidden =
    ap (find (is_shown asked)) (taken-more xs k o within is)
    ∙ find-append (is_shown asked) (take k xs) (o ∷ [])
    ∙ (λ i. option_or (none i) (if hidden i then Some o else None))

-- and where it is told, it is the first of all
pub first-here : (asked : Asked) (xs : List Outcome) (k : ℕ) (o : Outcome) → k < length xs → o ≡ get_or xs k o → find (is_shown asked) (take k xs) ≡ None → is_shown asked o ≡ true
    → find (is_shown asked) xs ≡ Some o
first-here asked xs k o within is none told =
    let rest = drop (k + 1) xs in
    ap (find (is_shown asked)) (sym (take-append-drop (k + 1) xs) ∙ ap (λ (l : List Outcome). l ++ rest) (taken-more xs k o within is))
    ∙ find-append (is_shown asked) (take k xs ++ o ∷ []) rest
    ∙ ap (λ (f : Option Outcome). option_or f (find (is_shown asked) rest)) (find-append (is_shown asked) (take k xs) (o ∷ []) ∙ (λ i. option_or (none i) (if told i then Some o else None)))
