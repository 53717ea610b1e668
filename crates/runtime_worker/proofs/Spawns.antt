-- What a machine has spawned: as much as its process, whichever of its results are looked at.
use Rattle.std.proofs.Common.{Option, ◌≡◌, ◌+◌, ◌<◌, ◌≤◌, ◌∙◌, ◌++◌, ◌∷◌, [], ℕ, List, Some, Contains, ap, append-nil, append_assoc, arith, length, refl, slice_get, subst, sym, take, ⊎_elim}
use Rattle.std.specs.Prelude.{drop}
use Rattle.std.proofs.Math.Seq.{drop-append_seam}
use Rattle.std.proofs.lemmas.Bool.{cases_lt}
use Rattle.std.proofs.lemmas.List.{length-append, take-append-le, take_all}
use Rattle.std.proofs.lemmas.List.Elements.{All-append}
use Rattle.script_tree.specs.Processes.{Proc}
use Rattle.script_tree.specs.Trees.{Block, block_of}
use Rattle.thread.specs.After.{Chosen, after}
use Rattle.thread.specs.Machines.{HasStopped, IsAfter, SameProcess, Thread}
use Rattle.thread.specs.Memories.{AddsNew}
use Rattle.thread.specs.Ranges.{MessageIsIn, ResultsAreIn}
use Rattle.thread.proofs.Spawning.{in_first}
use Rattle.journal_replay.specs.Starting.{spawned_in}
use Rattle.runtime_worker.specs.declared.resident.Suspended.{Suspended}
use Rattle.runtime_worker.specs.Machines.{HasSpawnedAll, IsAtSync, IsMachineOf, SpawnedSince, spawned_by}
use Rattle.runtime_worker.proofs.Processes.{has_spawned}

-- after all its results its process has spawned the same
all_told : (m : Thread) (t : ℕ) → HasStopped m.phase → IsAfter m → m.thread ≡ t → spawned_by m t m.results ≡ m.spawned
all_told m t stopped is thread = (λ i. spawned_in (after (block_of m.body) m.variables (sym thread i) m.results)) ∙ has_spawned m m.phase stopped is

-- so a machine that has stopped has spawned all, where it has all that its process had spawned after fewer results
spawned_all : (m : Thread) (t : ℕ) → HasStopped m.phase → IsAfter m → m.thread ≡ t → ((n other : ℕ) → n < length m.results → Contains (spawned_by m t (take n m.results)) other → Contains m.spawned other) → HasSpawnedAll m t
spawned_all m t stopped is thread fewer n other low has = ⊎_elim
    (λ (below : n < length m.results). fewer n other below has)
    (λ (all : length m.results ≤ n).
    subst (λ (l : List ℕ). Contains l other) (all_told m t stopped is thread)
    (subst (λ (rs : List Chosen). Contains (spawned_by m t rs) other) (take_all n m.results all) has))
    (cases_lt n (length m.results))

-- A MACHINE THAT HAS BEGUN
pub begun_is : (first : List (Option Suspended)) (start m : Suspended) (t : ℕ) → slice_get first t ≡ Some (Some start) → SameProcess start.machine.value m.machine.value → start.machine.value.results ≡ [] → m.machine.value.results ≡ []
    → IsAfter m.machine.value → HasStopped m.machine.value.phase → m.machine.value.thread ≡ t → ResultsAreIn [] → IsMachineOf first m t []
begun_is first start m t is_first same new given is stopped thread range = record {
  start = start;
  is_first = is_first;
  process = same;
  given = given ∙ sym (ap (λ (l : List Chosen). l ++ []) new);
  after = is;
  in_range = subst ResultsAreIn (sym given) range;
  told = spawned_all m.machine.value t stopped is thread (λ n other below has. let none : length m.machine.value.results ≡ 0 = ap (λ (l : List Chosen). length l) given in absurd (omega (arith, none, below)));
}

pub since_begun : (m : Suspended) (t had : ℕ) → m.machine.value.results ≡ [] → SpawnedSince m t had
since_begun m t had given other n h below has = let none : length m.machine.value.results ≡ 0 = ap (λ (l : List Chosen). length l) given in omega (arith, none, below)

-- A MACHINE THAT STANDS AT A SYNC from the first, and spawns nothing there
pub standing_is : (first : List (Option Suspended)) (start : Suspended) (p : Proc) (t : ℕ) → slice_get first t ≡ Some (Some start) → IsAtSync p t start.machine.value → IsMachineOf first start t []
standing_is first start p t is_first at = record {
  start = start;
  is_first = is_first;
  process = record { body = refl; code = refl; variables = refl; thread = refl };
  given = sym (append-nil start.machine.value.results);
  after = at.after;
  in_range = at.in_range;
  told = at.told;
}

pub since_standing : (m : Suspended) (t : ℕ) → SpawnedSince m t (length m.machine.value.spawned) × (length m.machine.value.spawned ≤ length m.machine.value.spawned)
since_standing m t = ((λ other n h below has. none_behind other m.machine.value.spawned h), omega arith)
  where
    none_behind : (other : ℕ) (xs : List ℕ) → Contains (drop (length xs) xs) other → ⊥
    none_behind other [] h = let low = h.1 in omega (arith, low)
    none_behind other (x ∷ xs) h = none_behind other xs h

-- A MACHINE THAT WAS RESUMED
module _ (first : List (Option Suspended)) (old m : Suspended) (t : ℕ) (earlier : List Chosen) (c : Chosen) (was : IsMachineOf first old t earlier) (same : SameProcess old.machine.value m.machine.value)
    (given : m.machine.value.results ≡ old.machine.value.results ++ c ∷ []) (adds : AddsNew old.machine.value.spawned m.machine.value.spawned) where
  size : length m.machine.value.results ≡ length old.machine.value.results + 1
  size = ap (λ (l : List Chosen). length l) given ∙ length-append old.machine.value.results (c ∷ [])

  -- what the process had spawned by earlier results, the machine had spawned before
  before : (n other : ℕ) → n ≤ length old.machine.value.results → Contains (spawned_by m.machine.value t (take n m.machine.value.results)) other → Contains old.machine.value.spawned other
  before n other low has =
      let results = ap (λ (l : List Chosen). take n l) given ∙ take-append-le n old.machine.value.results (c ∷ []) low in
      was.told n other low
      (subst (λ (z : Block × ℕ × List Chosen). Contains (spawned_in (after z.0 z.1 t z.2)) other) (λ i. (ap block_of same.body i, same.variables i, results i)) has)

  pub resumed_is : IsAfter m.machine.value → HasStopped m.machine.value.phase → m.machine.value.thread ≡ t → ResultsAreIn (c ∷ []) → IsMachineOf first m t (earlier ++ c ∷ [])
  resumed_is is stopped thread range = record {
    start = was.start;
    is_first = was.is_first;
    process = record { body = same.body ∙ was.process.body; code = same.code ∙ was.process.code; variables = same.variables ∙ was.process.variables; thread = same.thread ∙ was.process.thread };
    given = given ∙ ap (λ (l : List Chosen). l ++ c ∷ []) was.given ∙ append_assoc was.start.machine.value.results earlier (c ∷ []);
    after = is;
    in_range = subst ResultsAreIn (sym given) (All-append (λ (r : Chosen). MessageIsIn r.1) old.machine.value.results (c ∷ []) was.in_range range);
    told = spawned_all m.machine.value t stopped is thread (λ n other below has.
        subst (λ (l : List ℕ). Contains l other) (sym adds.1)
        (in_first old.machine.value.spawned adds.0 other (before n other (omega (arith, below, size)) has)));
  }

  pub since_resumed : SpawnedSince m t (length old.machine.value.spawned)
  since_resumed other n h below has =
      let more : Contains adds.0 other = subst (λ (l : List ℕ). Contains l other) (drop-append_seam old.machine.value.spawned adds.0) (subst (λ (l : List ℕ). Contains (drop (length old.machine.value.spawned) l) other) adds.1 h) in
      adds.2 other more (before n other (omega (arith, below, size)) has)
