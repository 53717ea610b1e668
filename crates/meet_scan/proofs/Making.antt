-- The steps that a search and a waking make, part by part.
use Rattle.std.proofs.Common.{◌≡◌, ℕ, zero, suc, List, ◌∷◌, refl, ap, sym, subst, ◌∙◌}
use Rattle.std.specs.Prelude.{Option, None, IfErr, IfOk, Result, Ok, Err}
use Rattle.protocol_values.specs.declared.Row.{Row}
use Rattle.protocol_values.specs.declared.Step.{Step}
use Rattle.protocol_values.specs.declared.Step.TheVariants.{Claim, Grant, Join, Seal, Yield}
use Rattle.cell.specs.Calls.{KeepsResults, PassOf}
use Rattle.meet_scan.specs.declared.found.Found.{Found}
use Rattle.meet_scan.specs.declared.found.Found.TheVariants.{Met, Alone, Already, Waits}
use Rattle.cell_table.specs.declared.view.Seen.{Seen}
use Rattle.meet_scan.specs.Searches.{Leaves}
use Rattle.meet_scan.specs.Steps.{OnlyLooks, SearchMade, SomeSearchMade, found_or_left, with_tries}

-- WHAT IS KEPT
pub keeps_nothing : {M : Type 0} (p : PassOf M) → KeepsResults p p
keeps_nothing p = (refl, refl)

pub keeps_then : {M : Type 0} (p q r : PassOf M) → KeepsResults p q → KeepsResults q r → KeepsResults p r
keeps_then p q r first last = (last.0 ∙ first.0, last.1 ∙ first.1)

pub looks_nothing : {M : Type 0} (p : PassOf M) → OnlyLooks p p
looks_nothing p = (refl, keeps_nothing p)

pub looks_then : {M : Type 0} (p q r : PassOf M) → OnlyLooks p q → OnlyLooks q r → OnlyLooks p r
looks_then p q r first last = (last.0 ∙ first.0, keeps_then p q r first.1 last.1)

-- SEARCHES
tries_more : (n m : ℕ) (r : Row) (before : List Step) → (k : ℕ) × (with_tries n r (with_tries m r before) ≡ with_tries k r before)
tries_more zero m r before = (m, refl)
tries_more (suc n) m r before =
    let more = tries_more n m r before in
    (suc more.0, ap (λ (steps : List Step). Yield r ∷ Claim r ∷ steps) more.1)

tries_then : (n m : ℕ) (r : Row) (a b : List Step) → b ≡ with_tries m r a → (k : ℕ) × (with_tries n r b ≡ with_tries k r a)
tries_then n m r a b e =
    let more = tries_more n m r a in
    (more.0, ap (λ (steps : List Step). with_tries n r steps) e ∙ more.1)

pub tries_nothing : (r : Row) (a : List Step) → SearchMade r Waits a a
tries_nothing r a = (0, refl)

-- a search goes on after nothing was found
pub made_then : (r : Row) (found : Found) (a b c : List Step) → SearchMade r Waits a b → SearchMade r found b c → SearchMade r found a c
made_then r (Met other) a b c first last =
    let more = tries_then last.0 first.0 r a b first.1 in
    (more.0, last.1, last.2, last.3 ∙ ap (λ (steps : List Step). Seal r ∷ Join r last.1 other last.2 ∷ Claim r ∷ steps) more.1)
made_then r Alone a b c first last =
    let more = tries_then last.0 first.0 r a b first.1 in
    (more.0, last.1, last.2 ∙ ap (λ (steps : List Step). Grant r last.1 ∷ steps) more.1)
made_then r Already a b c first last =
    let more = tries_then last.0 first.0 r a b first.1 in
    (more.0, last.1 ∙ more.1)
made_then r Waits a b c first last =
    let more = tries_then last.0 first.0 r a b first.1 in
    (more.0, last.1 ∙ more.1)

pub some_then : (r : Row) (a b c : List Step) → SearchMade r Waits a b → SomeSearchMade r b c → SomeSearchMade r a c
some_then r a b c first last = (last.0, made_then r last.0 a b c first last.1)

-- whatever a call answered that wanted for memory
pub any_error : {X E Q : Type 0} (r : Result X E) → Q → IfErr r (λ e. Q)
any_error (Ok x) q = tt
any_error (Err e) q = q

-- a call that may have come to something made the steps of a search
pub some_made : {E : Type 0} (r : Row) (a b : List Step) (answer : Result (Option Found) E) → IfOk answer (λ f. SearchMade r (found_or_left f) a b) → IfErr answer (λ e. SomeSearchMade r a b) → SomeSearchMade r a b
some_made r a b (Ok found) made failed = (found_or_left found, made)
some_made r a b (Err e) made failed = failed

pub some_looks : (r : Row) (a b c : List Step) → SomeSearchMade r a b → c ≡ b → SomeSearchMade r a c
some_looks r a b c made same = subst (λ (steps : List Step). SomeSearchMade r a steps) (sym same) made

-- where nothing was found
pub none_made : (r : Row) (a b : List Step) (found : Option Found) → found ≡ None → SearchMade r (found_or_left found) a b → SearchMade r Waits a b
none_made r a b found none made = subst (λ (f : Option Found). SearchMade r (found_or_left f) a b) none made

-- what was found goes on to the caller
pub found_made : (r : Row) (found same : Found) (a b c : List Step) → found ≡ same → SearchMade r Waits a b → SearchMade r found b c → SearchMade r same a c
found_made r found same a b c is first last = made_then r same a b c first (subst (λ (f : Found). SearchMade r f b c) is last)

-- and looks on
pub made_looks : (r : Row) (found : Found) (a b c : List Step) → SearchMade r found a b → c ≡ b → SearchMade r found a c
made_looks r found a b c made same = subst (λ (steps : List Step). SearchMade r found a steps) (sym same) made

-- at first the pass only looked
pub looked_first : (r : Row) (a b : List Step) → b ≡ a → SearchMade r Waits a b
looked_first r a b same = made_looks r Waits a a b (tries_nothing r a) same

-- the row was claimed and given up once more
pub one_try : (r : Row) (a b c : List Step) → SearchMade r Waits a b → c ≡ Yield r ∷ Claim r ∷ b → SearchMade r Waits a c
one_try r a b c made same = made_then r Waits a b c made (suc zero, same)

-- leaving a row makes no step
pub left_by : (r : Row) (found : Found) (s t : Seen) (a b c : List Step) → SearchMade r Waits a b → Leaves s t r found → c ≡ b → SearchMade r found a c
left_by r (Met other) s t a b c made left same = absurd left
left_by r Alone s t a b c made left same = absurd left
left_by r Already s t a b c made left same = made_looks r Waits a b c made same
left_by r Waits s t a b c made left same = made_looks r Waits a b c made same
