-- Nacks that are fired as a thread's results grow.
use Rattle.std.proofs.Common.{◌≡◌, ◌⊎◌, ℕ, zero, suc, ◌<◌, Bool, true, false, List, [], ◌∷◌, ◌++◌, length, take, slice_get, Some, Contains, refl, sym, ap, ◌∙◌, subst, arith, inl, inr, ⊎_elim}
use Rattle.std.proofs.lemmas.Bool.{cases_eq}
use Rattle.std.proofs.lemmas.List.{take-append-le}
use Rattle.std.proofs.lemmas.Option.{none-some, same_Some, slice_get_within}
use Rattle.event.specs.Tree.{Tree, BaseEvent, bases, scope_nacks}
use Rattle.script_tree.specs.Processes.{Proc}
use Rattle.thread.specs.After.{Chosen}
use Rattle.journal_replay.specs.Runs.{IsOffering, FiredAt}
use Rattle.journal_replay.proofs.Lists.{slice_get-first, slice_get-last, slice_get-more, take-whole}

-- WHETHER A NACK IS AMONG THESE, UNDER A SCOPE THAT FAILS THE TEST

abbrev pub HasFailing : List ℕ → (ℕ → Bool) → ℕ → Type 0
HasFailing nacks test k = (s : ℕ) × (slice_get nacks s ≡ Some k) × (test s ≡ false)

abbrev pub AllPass : List ℕ → (ℕ → Bool) → ℕ → Type 0
AllPass nacks test k = (s : ℕ) → slice_get nacks s ≡ Some k → test s ≡ true

pass-first : (n : ℕ) (nacks : List ℕ) (test : ℕ → Bool) (k : ℕ) → (n ≡ k → test zero ≡ true) → AllPass nacks (λ s. test (suc s)) k → AllPass (n ∷ nacks) test k
pass-first n nacks test k first later zero e = first (same_Some n k e)
pass-first n nacks test k first later (suc s) e = later s e

decide-first : (n : ℕ) (nacks : List ℕ) (test : ℕ → Bool) (k : ℕ) (b : Bool) → test zero ≡ b → AllPass nacks (λ s. test (suc s)) k → ((n ≡ k) ⊎ (n ≡ k → ⊥)) → HasFailing (n ∷ nacks) test k ⊎ AllPass (n ∷ nacks) test k
decide-first n nacks test k true e later same = inr (pass-first n nacks test k (λ _. e) later)
decide-first n nacks test k false e later (inl same) = inl (zero, ap Some same, e)
decide-first n nacks test k false e later (inr differs) = inr (pass-first n nacks test k (λ same. absurd (differs same)) later)

pub decide : (nacks : List ℕ) (test : ℕ → Bool) (k : ℕ) → HasFailing nacks test k ⊎ AllPass nacks test k
decide [] test k = inr (λ s e. absurd (none-some k e))
decide (n ∷ nacks) test k = elim (decide nacks (λ s. test (suc s)) k) [
  | inl w ↦ inl (suc w.0, w.1, w.2)
  | inr later ↦ decide-first n nacks test k (test zero) refl later (cases_eq n k)
]

-- RESULTS THAT GROW

-- a nack that was fired stays so
pub fired-behind : (ps : List Proc) (t : ℕ) (results behind : List Chosen) (k g : ℕ) → FiredAt ps t results k g → FiredAt ps t (results ++ behind) k g
fired-behind ps t results behind k g f =
    let within : g < length results = slice_get_within results g f.chosen f.result in
    record {
      chosen = f.chosen;
      result = slice_get-first results behind g within ∙ f.result;
      event = f.event;
      offered = subst (λ (xs : List Chosen). IsOffering ps t xs f.event) (sym (take-append-le g results behind (omega (arith, within)))) f.offered;
      scope = f.scope;
      nack = f.nack;
      base = f.base;
      took = f.took;
      outside = f.outside;
    }

-- and one that an earlier sync fired was fired by then
pub fired-front : (ps : List Proc) (t : ℕ) (results behind : List Chosen) (k g : ℕ) → FiredAt ps t (results ++ behind) k g → g < length results → FiredAt ps t results k g
fired-front ps t results behind k g f within = record {
  chosen = f.chosen;
  result = sym (slice_get-first results behind g within) ∙ f.result;
  event = f.event;
  offered = subst (λ (xs : List Chosen). IsOffering ps t xs f.event) (take-append-le g results behind (omega (arith, within))) f.offered;
  scope = f.scope;
  nack = f.nack;
  base = f.base;
  took = f.took;
  outside = f.outside;
}

pub fired-kept : (ps : List Proc) (t : ℕ) (results : List Chosen) (r : Chosen) (k g : ℕ) → FiredAt ps t results k g → FiredAt ps t (results ++ r ∷ []) k g
fired-kept ps t results r k g f = fired-behind ps t results (r ∷ []) k g f

-- a sync that fired nack k did so before, or it is the last, which offered this event and chose this
abbrev pub FiredNow : List Proc → ℕ → List Chosen → Chosen → ℕ → Type 0
FiredNow ps t results r k =
    (event : Tree) × IsOffering ps t results event × ((scope : ℕ) × (base : BaseEvent)
    × (slice_get (scope_nacks event) scope ≡ Some k) × (slice_get (bases event) r.0 ≡ Some base) × (Contains base.scopes scope → ⊥))

pub fired-cases : (ps : List Proc) (t : ℕ) (results : List Chosen) (r : Chosen) (k g : ℕ) → FiredAt ps t (results ++ r ∷ []) k g → FiredAt ps t results k g ⊎ ((g ≡ length results) × FiredNow ps t results r k)
fired-cases ps t results r k g f = ⊎_elim
    (λ h. inl (fired-front ps t results (r ∷ []) k g f h.0))
    (λ h.
    let whole : take g (results ++ r ∷ []) ≡ results = ap (λ (n : ℕ). take n (results ++ r ∷ [])) h.0 ∙ take-whole results r in
    inr (
      h.0,
      (
        f.event,
        subst (λ (xs : List Chosen). IsOffering ps t xs f.event) whole f.offered,
        (f.scope, f.base, f.nack, ap (λ (c : Chosen). slice_get (bases f.event) c.0) h.1 ∙ f.took, f.outside),
      ),
    ))
    (slice_get-more results r f.chosen g f.result)

pub fired-now : (ps : List Proc) (t : ℕ) (results : List Chosen) (r : Chosen) (k : ℕ) → FiredNow ps t results r k → FiredAt ps t (results ++ r ∷ []) k (length results)
fired-now ps t results r k f = record {
  chosen = r;
  result = slice_get-last results r;
  event = f.0;
  offered = subst (λ (xs : List Chosen). IsOffering ps t xs f.0) (sym (take-whole results r)) f.1;
  scope = f.2.0;
  nack = f.2.2;
  base = f.2.1;
  took = f.2.3;
  outside = f.2.4;
}
