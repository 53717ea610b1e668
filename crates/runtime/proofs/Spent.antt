-- Whether some machine is spent, place by place; and where a thread goes on.
use Rattle.std.proofs.Common.{◌≡◌, ◌<◌, ◌≤◌, ◌+◌, ◌∙◌, ℕ, List, Option, None, Some, length, get_or, slice_get, unwrap_or, refl, sym, ap, subst, inl, inr, ⊎_elim, arith}
use Rattle.std.proofs.lemmas.Bool.{cases_lt}
use Rattle.std.proofs.lemmas.Option.{slice_get-get_or}
use Rattle.protocol_ledger.specs.declared.opening.Life.{Life}
use Rattle.protocol_ledger.specs.declared.opening.Life.TheVariants.{Unstarted, Running, Ended}
use Rattle.script_tree.specs.Processes.{Proc}
use Rattle.thread.specs.Machines.{IsOpen, StartsAs, Thread}
use Rattle.runtime_worker.specs.declared.resident.Suspended.{Suspended}
use Rattle.runtime.specs.Between.{GoesOnFrom, HasSpent, IsSpent, SomeIsSpent, had_by}

-- WHO IS SPENT

same_in : {A : Type 0} (x y : A) → Some x ≡ Some y → x ≡ y
same_in {A} x y e = ap (λ (o : Option A). unwrap_or o x) e

pub its_machine : (place : Option Thread) (m : Thread) (before rows : ℕ) → place ≡ Some m → HasSpent place before rows → IsSpent m before rows
its_machine place m before rows is h = subst (λ (x : Thread). IsSpent x before rows) (same_in h.0 m (sym h.1 ∙ is)) h.2

module _ (had : List ℕ) (rows : ℕ) (machines : List (Option Thread)) (t : ℕ) (place : Option Thread) (before : ℕ) (below : t < length machines) (is : place ≡ get_or machines t place) (had_is : before ≡ had_by had t) where
  there : slice_get machines t ≡ Some place
  there = slice_get-get_or machines t place below ∙ ap (λ (x : Option Thread). Some x) (sym is)

  pub some_spent : HasSpent place before rows → SomeIsSpent had rows machines
  some_spent h = (t, h.0, there ∙ ap (λ (x : Option Thread). Some x) h.1, subst (λ (n : ℕ). IsSpent h.0 n rows) had_is h.2)

  pub not_here : (HasSpent place before rows → ⊥) → (k : ℕ) (m : Thread) → k ≡ t → slice_get machines k ≡ Some (Some m) → IsSpent m (had_by had k) rows → ⊥
  not_here none k m same got spent =
      none (m, same_in place (Some m) (sym there ∙ ap (λ (n : ℕ). slice_get machines n) (sym same) ∙ got), subst (λ (n : ℕ). IsSpent m n rows) (ap (had_by had) same ∙ sym had_is) spent)

pub by_parts : {C : Type 0} (t k : ℕ) → k < t + 1 → (k < t → C) → (k ≡ t → C) → C
by_parts t k below less same = ⊎_elim less (λ (over : t ≤ k). same (omega arith)) (cases_lt k t)

-- WHERE A THREAD GOES ON

module _ (p : Proc) (t stamp : ℕ) (l : Life) where
  pub goes_new : (m : Option Thread) (s : Suspended) (n : Thread) → l ≡ Unstarted → s.machine.value ≡ n → StartsAs p t n → GoesOnFrom p t (l, stamp) m (l, stamp) (Some s) None
  goes_new m s n is same starts =
      subst (λ (k : Life). GoesOnFrom p t (k, stamp) m (k, stamp) (Some s) None) (sym is) (refl, (s, refl, subst (λ (x : Thread). StartsAs p t x) (sym same) starts), refl)

  pub goes_running : (m : Option Thread) (s : Suspended) (n : Thread) → l ≡ Running → m ≡ Some n → s.machine.value ≡ n → IsOpen n.phase → GoesOnFrom p t (l, stamp) m (l, stamp) (Some s) None
  goes_running m s n is its same offering =
      subst (λ (k : Life). GoesOnFrom p t (k, stamp) m (k, stamp) (Some s) None) (sym is)
      (inl (refl, (s, refl, its ∙ ap (λ (x : Thread). Some x) (sym same), subst (λ (x : Thread). IsOpen x.phase) (sym same) offering), refl))

  pub goes_at_end : (m : Option Thread) (n : Thread) → l ≡ Running → m ≡ Some n → (IsOpen n.phase → ⊥) → GoesOnFrom p t (l, stamp) m (Ended, stamp) None (Some n)
  goes_at_end m n is its shut =
      subst (λ (k : Life). GoesOnFrom p t (k, stamp) m (Ended, stamp) None (Some n)) (sym is) (inr (refl, refl, (n, its, shut), sym its))
