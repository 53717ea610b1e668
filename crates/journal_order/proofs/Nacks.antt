-- A nack stands in the scopes of one sync.
use Rattle.std.proofs.Common.{◌≡◌, ℕ, zero, suc, ◌<◌, List, [], ◌∷◌, ◌++◌, length, take, drop, Contains, sym, ap, ◌∙◌, subst, arith, ⊎_elim}
use Rattle.std.specs.List.{AllByRecursion}
use Rattle.std.proofs.lemmas.Bool.{cases_order}
use Rattle.std.proofs.lemmas.List.{length-append, length-take-le, take-append-drop, take-take}
use Rattle.std.proofs.lemmas.Option.{get_or_from_slice_get, same_Some, slice_get_within}
use Rattle.std.specs.Prelude.{⊤}
use Rattle.event.specs.Tree.{Tree, Single, Nothing, Or, Wrap, Scope, scope_nacks}
use Rattle.script_tree.specs.Processes.{Proc}
use Rattle.thread.specs.After.{Chosen, Said, State, Outcome, Offers, after}
use Rattle.thread.proofs.Nacks.{Without, Both, Quiet, after_both}
use Rattle.journal_replay.specs.Runs.{FiredAt, IsOffering}
use Rattle.journal_order.specs.Laws.{HasScopeAt, OneSyncOneNack}

abbrev Other : ℕ → ℕ → Type 0
Other k n = n ≡ k → ⊥

all-append : (P : ℕ → Type 0) (xs ys : List ℕ) → AllByRecursion P xs → AllByRecursion P ys → AllByRecursion P (xs ++ ys)
all-append P [] ys h i = i
all-append P (x ∷ xs) ys h i = (h.0, all-append P xs ys h.1 i)

others : (k : ℕ) (tree : Tree) → Without k tree → AllByRecursion (Other k) (scope_nacks tree)
others k (Single base) h = tt
others k Nothing h = tt
others k (Or first second) h = all-append (Other k) (scope_nacks first) (scope_nacks second) (others k first h.0) (others k second h.1)
others k (Wrap wrap event) h = others k event h
others k (Scope nack event) h = (h.0, others k event h.1)

none-in : (k : ℕ) (nacks : List ℕ) → AllByRecursion (Other k) nacks → Contains nacks k → ⊥
none-in k [] h (i, within, is) = absurd (omega (arith, within))
none-in k (n ∷ nacks) h (zero, within, is) = h.0 is
none-in k (n ∷ nacks) h (suc i, within, is) = none-in k nacks h.1 (i, omega (arith, within), is)

-- where a process offers an event with the nack, and with more results another event, that one has the nack no more
offers-again : (k : ℕ) (more : List Chosen) (c : Chosen) (d e : Tree) (x y : Outcome State) →
    Both k c more 0 x y (λ a b. ⊤) (λ a. ⊤) → (told : Said) → x ≡ Offers d told → (later : Said) → y ≡ Offers e later → Contains (scope_nacks d) k → Contains (scope_nacks e) k → ⊥
offers-again k more c d e x y both told is later then has again =
    let one : Both k c more 0 (Offers d told) y (λ a b. ⊤) (λ a. ⊤) = subst (λ (z : Outcome State). Both k c more 0 z y (λ a b. ⊤) (λ a. ⊤)) is both in
    let quiet : Quiet k y (λ a. ⊤) = (one (λ w. none-in k (scope_nacks d) (others k d w) has)).1 in
    let none : Without k e = subst (λ (z : Outcome State). Quiet k z (λ a. ⊤)) then quiet in
    none-in k (scope_nacks e) (others k e none) again

runs-on : (ps : List Proc) (t : ℕ) (before behind : List Chosen) (k : ℕ) (d e : Tree) → 0 < length behind → IsOffering ps t before d → IsOffering ps t (before ++ behind) e →
    Contains (scope_nacks d) k → Contains (scope_nacks e) k → ⊥
runs-on ps t before [] k d e some one two has again = absurd (omega (arith, some))
runs-on ps t before (c ∷ more) k d e some one two has again =
    let p = one.process in
    let same : two.process ≡ p = same_Some two.process p (sym two.is_its ∙ one.is_its) in
    let then : after p.body (length p.variables) t (before ++ c ∷ more) ≡ Offers e two.said =
    ap (λ (q : Proc). after q.body (length q.variables) t (before ++ c ∷ more)) (sym same) ∙ two.offers in
    offers-again k more c d e _ _ (after_both k c more p.body (length p.variables) t before) one.said one.offers two.said then has again

before-only : (ps : List Proc) (t : ℕ) (results : List Chosen) (k g h : ℕ) → HasScopeAt ps t results k g → HasScopeAt ps t results k h → g < h → ⊥
before-only ps t results k g h one two lt =
    let longer = take h results in
    let front : take g longer ≡ take g results = take-take g h results (omega (arith, lt)) in
    let whole : longer ≡ take g results ++ drop g longer = sym (take-append-drop g longer) ∙ ap (λ (rs : List Chosen). rs ++ drop g longer) front in
    let some : 0 < length (drop g longer) =
    omega (arith, lt, one.within, two.within, length-take-le h results two.within, length-take-le g results one.within, ap (λ (rs : List Chosen). length rs) whole, length-append (take g results) (drop g longer)) in
    runs-on ps t (take g results) (drop g longer) k one.event two.event some one.offered
    (subst (λ (rs : List Chosen). IsOffering ps t rs two.event) whole two.offered) one.scope two.scope

pub one-sync : OneSyncOneNack
one-sync ps t results k g h one two = ⊎_elim
    (λ e. e)
    (λ other. ⊎_elim
    (λ lt. absurd (before-only ps t results k g h one two lt))
    (λ gt. absurd (before-only ps t results k h g two one gt))
    other)
    (cases_order g h)

has-scope : (ps : List Proc) (t : ℕ) (results : List Chosen) (k g : ℕ) → FiredAt ps t results k g → HasScopeAt ps t results k g
has-scope ps t results k g f =
    let within = slice_get_within results g f.chosen f.result in
    let nacks = scope_nacks f.event in record {
      within = omega (arith, within);
      event = f.event;
      offered = f.offered;
      scope = (f.scope, slice_get_within nacks f.scope k f.nack, get_or_from_slice_get nacks f.scope k k f.nack);
    }

-- one sync fires a nack
pub fired-once : (ps : List Proc) (t : ℕ) (results : List Chosen) (k g h : ℕ) → FiredAt ps t results k g → FiredAt ps t results k h → g ≡ h
fired-once ps t results k g h one two = one-sync ps t results k g h (has-scope ps t results k g one) (has-scope ps t results k h two)
