-- The machines of a run go on with the trees of its script.
use Rattle.std.proofs.Common.{◌≡◌, ◌+◌, ℕ, zero, suc, List, [], ◌∷◌, ◌++◌, Option, None, Some, length, map, slice_get, ap, ◌∙◌, refl, subst, sym, ⊎_elim}
use Rattle.std.specs.Option.{option_map}
use Rattle.std.proofs.lemmas.Option.{none-some, same_Some, slice_get-map}
use Rattle.script_tree.specs.declared.tree.Block.{Block as Tree}
use Rattle.thread.specs.Machines.{Thread}
use Rattle.protocol_ledger.specs.Ledgers.{Ledger}
use Rattle.journal.specs.Concluding.{RunTrees}
use Rattle.journal_replay.proofs.Lists.{slice_get-more}
use Rattle.runtime_worker.specs.declared.resident.Suspended.{Suspended}
use Rattle.runtime_run.specs.Machines.{AreLeftBy, machine_in}
use Rattle.runtime_run.proofs.Resting.{home_at}

-- of machines that wait
abbrev pub RunFirst : List Tree → List Suspended → Type 0
RunFirst trees first = (t : ℕ) (s : Suspended) → slice_get first t ≡ Some s → slice_get trees t ≡ Some s.machine.value.body

pub first_one_more : (trees : List Tree) (first : List Suspended) (s : Suspended) → RunFirst trees first → slice_get trees (length first) ≡ Some s.machine.value.body → RunFirst trees (first ++ s ∷ [])
first_one_more trees first s before there t x at = ⊎_elim
    (λ old. before t x old.1)
    (λ new. subst (λ (y : Suspended). slice_get trees t ≡ Some y.machine.value.body) new.1 (ap (slice_get trees) new.0 ∙ there))
    (slice_get-more first s x t at)

some_at : (xs : List Suspended) (t : ℕ) (s : Suspended) → slice_get (map Some xs) t ≡ Some (Some s) → slice_get xs t ≡ Some s
some_at [] t s is = absurd (none-some (Some s) is)
some_at (x ∷ xs) zero s is = same_Some (Some x) (Some s) is
some_at (x ∷ xs) (suc t) s is = some_at xs t s is

pub first_run : (trees : List Tree) (first : List Suspended) → RunFirst trees first → RunTrees trees (map machine_in (map Some first))
first_run trees first begin t m is =
    let home = home_at (map Some first) t m is in
    begin t home.0 (some_at first t home.0 home.1) ∙ ap (λ (x : Thread). Some x.body) home.2

-- what a table leaves goes on with what it began with
pub left_trees : (trees : List Tree) (first : List (Option Suspended)) (l : Ledger) (machines : List (Option Thread)) → AreLeftBy first l machines → RunTrees trees (map machine_in first) → RunTrees trees machines
left_trees trees first l machines left begin t m is =
    let over = left.1 t m is in
    let start = over.machine.start in
    begin t start.machine.value (slice_get-map machine_in first t ∙ ap (option_map machine_in) over.machine.is_first)
    ∙ ap (λ (x : Tree). Some x) (sym over.machine.process.body) ∙ ap (λ (x : Thread). Some x.body) over.value
