-- The lines of the processes that are marked, from a place on.
use Rattle.std.proofs.Common.{◌≡◌, ℕ, zero, suc, ◌+◌, Bool, true, false, drop, List, [], ◌∷◌, ◌++◌, map, slice_get, Some, Result, Ok, Err, if◌then◌else◌, append_assoc, refl, sym, ap, ◌∙◌, arith}
use Rattle.std.specs.Prelude.{OnOk}
use Rattle.std.specs.List.{enumerate_from, zip}
use Rattle.std.proofs.lemmas.Option.{none-some, same_Some}
use Rattle.protocol_values.specs.declared.Atom.{Atom}
use Rattle.journal_text.specs.Names.{Naming}
use Rattle.thread.specs.declared.end.End.{End}
use Rattle.outcomes.specs.Asking.{marked}
use Rattle.pcml_answers.specs.Standings.{Standing, process_line, process_lines}
use Rattle.pcml_outcomes.specs.Told.{standings}

abbrev standings_from : ℕ → List End → List (List Atom) → List Standing
standings_from n ends outputs = map (λ p. record { thread = p.0; end = p.1.0; printed = p.1.1 }) (enumerate_from n (zip ends outputs))

suc-more : (k : ℕ) → suc k + 1 ≡ suc (k + 1)
suc-more k = omega arith

drop-mark : (marks : List Bool) (k : ℕ) (m : Bool) → slice_get marks k ≡ Some m → drop k marks ≡ m ∷ drop (k + 1) marks
drop-mark [] k m is = absurd (none-some m is)
drop-mark (n ∷ marks) zero m is = λ i. same_Some n m is i ∷ marks
drop-mark (n ∷ marks) (suc k) m is = drop-mark marks k m is ∙ ap (λ (j : ℕ). m ∷ drop j (n ∷ marks)) (sym (suc-more k))

drop-standing : (n : ℕ) (ends : List End) (outputs : List (List Atom)) (k : ℕ) (e : End) (o : List Atom) → slice_get ends k ≡ Some e → slice_get outputs k ≡ Some o →
    drop k (standings_from n ends outputs) ≡ record { thread = n + k; end = e; printed = o } ∷ drop (k + 1) (standings_from n ends outputs)
drop-standing n [] outputs k e o is out = absurd (none-some e is)
drop-standing n (f ∷ ends) [] k e o is out = absurd (none-some o out)
drop-standing n (f ∷ ends) (p ∷ outputs) zero e o is out =
    let same : n ≡ n + 0 = omega arith in
    λ i. record { thread = same i; end = same_Some f e is i; printed = same_Some p o out i } ∷ standings_from (n + 1) ends outputs
drop-standing n (f ∷ ends) (p ∷ outputs) (suc k) e o is out =
    let place : n + 1 + k ≡ n + suc k = omega arith in
    let less : suc (k + 1) ≡ suc k + 1 = omega arith in
    drop-standing (n + 1) ends outputs k e o is out ∙ (λ i. record { thread = place i; end = e; printed = o } ∷ drop (less i) (standings_from n (f ∷ ends) (p ∷ outputs)))

one-marked : (names : Naming) (m : Bool) (marks : List Bool) (p : Standing) (all : List Standing) → process_lines names (marked (m ∷ marks) (p ∷ all)) ≡ (if m then process_line names p else []) ++ process_lines names (marked marks all)
one-marked names true marks p all = refl
one-marked names false marks p all = refl

-- the line of the process at a place, where it is marked, and those behind it
pub marked-from : (names : Naming) (marks : List Bool) (ends : List End) (outputs : List (List Atom)) (k : ℕ) (m : Bool) (e : End) (o : List Atom) → slice_get marks k ≡ Some m → slice_get ends k ≡ Some e → slice_get outputs k ≡ Some o →
    process_lines names (marked (drop k marks) (drop k (standings ends outputs)))
    ≡ (if m then process_line names (record { thread = k; end = e; printed = o }) else []) ++ process_lines names (marked (drop (k + 1) marks) (drop (k + 1) (standings ends outputs)))
marked-from names marks ends outputs k m e o mark is out =
    (λ i. process_lines names (marked (drop-mark marks k m mark i) (drop-standing 0 ends outputs k e o is out i)))
    ∙ one-marked names m (drop (k + 1) marks) (record { thread = 0 + k; end = e; printed = o }) (drop (k + 1) (standings ends outputs))
    ∙ ap (λ (t : ℕ). (if m then process_line names (record { thread = t; end = e; printed = o }) else []) ++ process_lines names (marked (drop (k + 1) marks) (drop (k + 1) (standings ends outputs)))) (omega arith)

-- a text behind what was added
pub added-behind : {T E : Type 0} (r : Result T E) (old first new text more : List ℕ) → first ≡ old ++ text → OnOk r (new ≡ first ++ more) → OnOk r (new ≡ old ++ (text ++ more))
added-behind (Ok v) old first new text more one two = two ∙ ap (λ (l : List ℕ). l ++ more) one ∙ append_assoc old text more
added-behind (Err e) old first new text more one two = tt
