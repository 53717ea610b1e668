-- Machines that are kept, and the trees that they run.
use Rattle.std.proofs.Common.{◌≡◌, ◌<◌, ℕ, List, [], ◌∷◌, ◌++◌, length, map, set, Option, None, Some, IfSome, slice_get, refl, sym, ap, ◌∙◌, subst, inl, inr, ⊎_elim}
use Rattle.std.proofs.lemmas.Bool.{cases_eq}
use Rattle.std.proofs.lemmas.List.{length-map, length-set, map-append}
use Rattle.std.proofs.lemmas.Option.{same_Some}
use Rattle.thread.specs.Machines.{Thread}
use Rattle.script_tree.specs.declared.tree.Block.{Block as Tree}
use Rattle.journal.specs.Concluding.{RunTrees}
use Rattle.journal_replay.proofs.Lists.{slice_get-more}
use Rattle.runtime_worker.specs.declared.resident.Suspended.{Suspended}
use Rattle.runtime_run.specs.Machines.{machine_in}
use Rattle.runtime.specs.Between.{AreKept}
use Rattle.runtime_run.proofs.Resting.{get_set_other, get_set_same}

pub kept_none : (old machines : List (Option Thread)) → AreKept old machines old
kept_none old machines = record { count = refl; each = λ t m is. inl is }

pub kept_put : (old machines new : List (Option Thread)) (t : ℕ) (m : Option Thread) → AreKept old machines new → slice_get machines t ≡ Some m → t < length new → AreKept old machines (set new t m)
kept_put old machines new t m kept there low = record {
  count = length-set new t m ∙ kept.count;
  each = λ u y is. ⊎_elim
      (λ (same : u ≡ t). inr (ap (slice_get machines) same ∙ there ∙ ap Some (same_Some m (Some y) (sym (get_set_same new t m low) ∙ ap (slice_get (set new t m)) (sym same) ∙ is))))
      (λ (other : u ≡ t → ⊥). kept.each u y (sym (get_set_other new t u m other) ∙ is))
      (cases_eq u t);
}

-- what is kept runs the trees that the machines of both run
pub kept_trees : (trees : List Tree) (old machines new : List (Option Thread)) → AreKept old machines new → RunTrees trees old → RunTrees trees machines → RunTrees trees new
kept_trees trees old machines new kept first second t m is = ⊎_elim (λ was. first t m was) (λ own. second t m own) (kept.each t m is)

-- one place more
pub run_more : (trees : List Tree) (xs : List (Option Thread)) (o : Option Thread) → RunTrees trees xs → IfSome o (λ m. slice_get trees (length xs) ≡ Some m.body) → RunTrees trees (xs ++ o ∷ [])
run_more trees xs o before own t m is = ⊎_elim
    (λ old. before t m old.1)
    (λ new. subst (λ (n : ℕ). slice_get trees n ≡ Some m.body) (sym new.0) (subst (λ (p : Option Thread). IfSome p (λ y. slice_get trees (length xs) ≡ Some y.body)) new.1 own))
    (slice_get-more xs o (Some m) t is)

-- what goes on into the next table, and what has ended, runs the thread's tree
first_tree : (trees : List Tree) (n : ℕ) (tree : Tree) (s : Option Suspended) → slice_get trees n ≡ Some tree → IfSome s (λ x. x.machine.value.body ≡ tree) → IfSome (machine_in s) (λ m. slice_get trees n ≡ Some m.body)
first_tree trees n tree None there own = tt
first_tree trees n tree (Some s) there own = there ∙ ap (λ (b : Tree). Some b) (sym own)

own_tree : (trees : List Tree) (n : ℕ) (tree : Tree) (o : Option Thread) → slice_get trees n ≡ Some tree → IfSome o (λ m. m.body ≡ tree) → IfSome o (λ m. slice_get trees n ≡ Some m.body)
own_tree trees n tree None there own = tt
own_tree trees n tree (Some m) there own = there ∙ ap (λ (b : Tree). Some b) (sym own)

tree_own : (trees : List Tree) (machines : List (Option Thread)) (n : ℕ) (tree : Tree) (o : Option Thread) → slice_get trees n ≡ Some tree → slice_get machines n ≡ Some o → RunTrees trees machines → IfSome o (λ m. m.body ≡ tree)
tree_own trees machines n tree None there is run = tt
tree_own trees machines n tree (Some m) there is run = sym (same_Some tree m.body (sym there ∙ run n m is))

pub go_on_trees : (trees : List Tree) (machines : List (Option Thread)) (first : List (Option Suspended)) (ended : List (Option Thread)) (n : ℕ) (tree : Tree) (o : Option Thread) (s : Option Suspended) (e : Option Thread) → length first ≡ n → length ended ≡ n →
    slice_get trees n ≡ Some tree → slice_get machines n ≡ Some o → RunTrees trees machines → RunTrees trees (map machine_in first) × RunTrees trees ended →
    (IfSome o (λ m. m.body ≡ tree) → IfSome s (λ x. x.machine.value.body ≡ tree) × IfSome e (λ m. m.body ≡ tree)) → RunTrees trees (map machine_in (first ++ s ∷ [])) × RunTrees trees (ended ++ e ∷ [])
go_on_trees trees machines first ended n tree o s e size count there is run before goes =
    let own = goes (tree_own trees machines n tree o there is run) in (
      subst (RunTrees trees) (sym (map-append machine_in first (s ∷ [])))
          (run_more trees (map machine_in first) (machine_in s) before.0
          (subst (λ (k : ℕ). IfSome (machine_in s) (λ m. slice_get trees k ≡ Some m.body)) (sym (length-map first machine_in ∙ size)) (first_tree trees n tree s there own.0))),
      run_more trees ended e before.1 (subst (λ (k : ℕ). IfSome e (λ m. slice_get trees k ≡ Some m.body)) (sym count) (own_tree trees n tree e there own.1)),
    )
