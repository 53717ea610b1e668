-- What machines do for their threads, their processes do.
use Rattle.std.proofs.Common.{Option, ◌≡◌, ◌⊎◌, ◌<◌, ◌++◌, ℕ, List, length, Some, inl, inr, slice_get, Contains, sym, ap, ◌∙◌, subst, ⊎_elim}
use Rattle.std.proofs.lemmas.Option.{same_Some}
use Rattle.protocol_values.specs.declared.Offer.{Offer}
use Rattle.script_tree.specs.Processes.{IsProc, Proc}
use Rattle.script_tree.specs.Spawning.{AreSpawnedOnce, spawner}
use Rattle.script_tree.specs.Trees.{Block, block_of}
use Rattle.thread.specs.After.{Chosen, Outcome, State, after}
use Rattle.thread.specs.Machines.{Broken, HasStopped, IsAfterAt, IsOpen, Open, Over, Phase, Ready, StartsAs, Stuck, Thread, said_in}
use Rattle.journal_replay.specs.Starting.{HasSpawned, spawned_in}
use Rattle.journal_ledger.specs.Ledgers.{ProcessOffers}
use Rattle.journal_order.proofs.Spawners.{spawner_is, text_spawns}
use Rattle.runtime_worker.specs.declared.resident.Suspended.{Suspended}
use Rattle.runtime_worker.specs.Machines.{AreFirst, AreNew, IsAtSync, IsMachineOf, StandsFor, spawned_by}

-- FIRST MACHINES

-- the machine runs the process as this thread, within the limits of processes
pub record Runs (process : Proc) (number : ℕ) (m : Thread) : Type 0 where
  pub limits : IsProc process
  pub place : process.earlier < 64
  pub body : block_of m.body ≡ process.body
  pub variables : m.variables ≡ length process.variables
  pub thread : m.thread ≡ number

-- whether its process is before it or it stands at a sync
runs_its : (p : Proc) (t : ℕ) (m : Thread) → StartsAs p t m ⊎ IsAtSync p t m → Runs p t m
runs_its p t m (inl new) = record { limits = new.limits; place = new.place; body = new.body; variables = new.variables; thread = new.thread }
runs_its p t m (inr at) = record { limits = at.limits; place = at.place; body = at.body; variables = at.variables; thread = at.thread }

-- machines that are new are first ones
pub new_first : (ps : List Proc) (first : List (Option Suspended)) → AreNew ps first → AreFirst ps first
new_first ps first are = (are.0, λ t m is. let new = are.1 t m is in (new.0, new.1, inl new.2))

-- and were given nothing: so the results of a thread's machine are all that it was given
pub new_given : (ps : List Proc) (first : List (Option Suspended)) (t : ℕ) (m : Suspended) (results : List Chosen) → AreNew ps first → IsMachineOf first m t results → m.machine.value.results ≡ results
new_given ps first t m results are is = is.given ∙ ap (λ (l : List Chosen). l ++ results) (are.1 t is.start is.is_first).2.results

-- a first machine that stands at no sync is new
pub is_new : (ps : List Proc) (first : List (Option Suspended)) (t : ℕ) (m : Suspended) → AreFirst ps first → slice_get first t ≡ Some (Some m) → ¬ IsOpen m.machine.value.phase → (p : Proc) × StartsAs p t m.machine.value
is_new ps first t m are is not_open =
    let f = are.1 t m is in
    (f.0, ⊎_elim (λ (new : StartsAs f.0 t m.machine.value). new) (λ (at : IsAtSync f.0 t m.machine.value). absurd (not_open at.is_open)) f.2)

-- and one that stands at a sync is not
pub is_standing : (ps : List Proc) (first : List (Option Suspended)) (t : ℕ) (m : Suspended) → AreFirst ps first → slice_get first t ≡ Some (Some m) → IsOpen m.machine.value.phase → (p : Proc) × IsAtSync p t m.machine.value
is_standing ps first t m are is open_now =
    let f = are.1 t m is in
    (f.0, ⊎_elim (λ (new : StartsAs f.0 t m.machine.value). absurd (subst IsOpen new.phase open_now)) (λ (at : IsAtSync f.0 t m.machine.value). at) f.2)

-- THE PROCESS of a thread's machine
pub process_of : (ps : List Proc) (first : List (Option Suspended)) (t : ℕ) (m : Suspended) (results : List Chosen) → AreFirst ps first → (is : IsMachineOf first m t results) → (p : Proc) × (slice_get ps t ≡ Some p) × Runs p t m.machine.value
process_of ps first t m results are is =
    let f = are.1 t is.start is.is_first in
    let runs = runs_its f.0 t is.start.machine.value f.2 in (
      f.0,
      f.1,
      record {
        limits = runs.limits;
        place = runs.place;
        body = ap block_of is.process.body ∙ runs.body;
        variables = is.process.variables ∙ runs.variables;
        thread = is.process.thread ∙ runs.thread;
      },
    )

-- what it does after the machine's results
pub after_of : (p : Proc) (t : ℕ) (m : Thread) → Runs p t m → after (block_of m.body) m.variables m.thread m.results ≡ after p.body (length p.variables) t m.results
after_of p t m runs = λ i. after (runs.body i) (runs.variables i) (runs.thread i) m.results

pub offers_as : (ps : List Proc) (first : List (Option Suspended)) (t : ℕ) (m : Suspended) (results : List Chosen) (os : List Offer) (ns : List ℕ) → AreFirst ps first → StandsFor first m t results os ns → ProcessOffers ps t m.machine.value.results os ns
offers_as ps first t m results os ns are (is, phase) =
    let p = process_of ps first t m results are is in
    let opens = subst (λ (x : Phase). IsAfterAt m.machine.value x) phase is.after in
    record {
      event = opens.tree;
      offered = record {
        process = p.0;
        is_its = p.1;
        said = said_in m.machine.value;
        offers = sym (after_of p.0 t m.machine.value p.2) ∙ opens.after;
      };
      are = opens.offers;
      scopes = opens.nacks;
    }

-- a machine that has stopped has spawned what its process has
pub has_spawned : (m : Thread) (phase : Phase) → HasStopped phase → IsAfterAt m phase → spawned_in (after (block_of m.body) m.variables m.thread m.results) ≡ m.spawned
has_spawned m Ready stopped is = absurd stopped
has_spawned m (Open os ns) stopped is = ap spawned_in is.after
has_spawned m Over stopped is = ap spawned_in is
has_spawned m (Stuck fault) stopped is = ap spawned_in is
has_spawned m Broken stopped is = absurd stopped

-- what a machine has spawned its process has
pub spawned_there : (ps : List Proc) (first : List (Option Suspended)) (s : ℕ) (results : List Chosen) (t : ℕ) → AreFirst ps first → (m : Suspended) → IsMachineOf first m s results → HasStopped m.machine.value.phase → Contains m.machine.value.spawned t
    → HasSpawned ps s m.machine.value.results t
spawned_there ps first s results t are m is stopped has =
    let p = process_of ps first s m results are is in
    record {
      process = p.0;
      is_its = p.1;
      spawned = subst (λ (x : Outcome State). Contains (spawned_in x) t) (after_of p.0 s m.machine.value p.2) (subst (λ (l : List ℕ). Contains l t) (sym (has_spawned m.machine.value m.machine.value.phase stopped is.after)) has);
    }

-- what its process has spawned after some results, the machine's process has
pub spawned_fewer : (ps : List Proc) (s t : ℕ) (m : Thread) (rs : List Chosen) (p : Proc) → slice_get ps s ≡ Some p → Runs p s m → HasSpawned ps s rs t → Contains (spawned_by m s rs) t
spawned_fewer ps s t m rs p is runs has =
    subst (λ (z : Block × ℕ). Contains (spawned_in (after z.0 z.1 s rs)) t) (λ i. (sym runs.body i, sym runs.variables i))
    (subst (λ (q : Proc). Contains (spawned_in (after q.body (length q.variables) s rs)) t) (same_Some has.process p (sym has.is_its ∙ is)) has.spawned)

pub spawner_there : (ps : List Proc) (first : List (Option Suspended)) (s : ℕ) (results : List Chosen) (t : ℕ) → AreFirst ps first → AreSpawnedOnce ps → (m : Suspended) → IsMachineOf first m s results → HasStopped m.machine.value.phase → Contains m.machine.value.spawned t
    → spawner ps t ≡ Some s
spawner_there ps first s results t are once m is stopped has =
    let there = spawned_there ps first s results t are m is stopped has in
    spawner_is ps once s t there.process there.is_its (text_spawns ps s there.process m.machine.value.results t there.is_its there)
