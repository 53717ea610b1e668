-- What machines do for their threads, their processes do: so the ledger of their table is one of the processes.
use Rattle.std.proofs.Common.{◌≡◌, ◌+◌, ◌*◌, ◌<◌, ◌≤◌, ℕ, zero, suc, Bool, true, false, cond, ltb, List, [], ◌++◌, get_or, replicate, Option, Some, slice_get, take, ap, ◌∙◌, inl, inr, ⊎_elim, sym, refl, subst, arith}
use Rattle.std.proofs.Math.Seq.{take-length}
use Rattle.script_tree.specs.Processes.{Proc}
use Rattle.script_tree.specs.Spawning.{AreSpawnedOnce}
use Rattle.script_tree.specs.Trees.{block_of}
use Rattle.thread.specs.After.{Chosen, after}
use Rattle.thread.specs.Machines.{Broken, IsAfterAt, Open, Over, Phase, Ready, Stuck, Thread}
use Rattle.protocol_ledger.specs.Acting.{ActsAs, Before, IsStarted, StartedBefore, StartedBy, acts_in, before_of}
use Rattle.protocol_ledger.specs.Ledgers.{IsLawful, Ledger, ledger_of}
use Rattle.protocol_ledger.specs.Openings.{HadStarted, start_opening}
use Rattle.protocol_ledger.specs.Tables.{thread_len}
use Rattle.protocol_ledger.specs.Worlds.{start_world, waits, with_lives}
use Rattle.protocol_ledger.proofs.Acting.{ends-first, first_started, first_unended, starts-first}
use Rattle.protocol_ledger.proofs.LedgerLemmas.{kept_start, lawful_ledger, start_greatest}
use Rattle.protocol_ledger.proofs.Standing.{stands-ledger, stands-start}
use Rattle.journal_replay.specs.Starting.{AtOnce, HasEnded, HasSpawned, IsOver}
use Rattle.std.proofs.lemmas.Option.{none-some}
use Rattle.protocol_values.specs.declared.NackName.{NackName}
use Rattle.protocol_ledger.specs.declared.opening.NackState.TheVariants.{Enabled, Unbound}
use Rattle.journal_replay.specs.Runs.{Config, CountsOf, IsGreatest, no_results}
use Rattle.journal_replay.specs.Standing.{KnowsNack}
use Rattle.journal_replay.proofs.Greatest.{greatest-none}
use Rattle.journal_ledger.specs.Behind.{TellsRun, acts_behind, nack_state}
use Rattle.journal_ledger.specs.Ledgers.{IsFirst, IsLedgerOf, fired_as, nothing_before, ProcessOffers, ProcessSpawns, acts_of}
use Rattle.journal_order.proofs.Spawners.{no_spawner}
use Rattle.runtime_worker.proofs.Processes.{after_of, new_first, offers_as, process_of, spawned_fewer, spawned_there, spawner_there}
use Rattle.runtime_worker.specs.declared.resident.Suspended.{Suspended}
use Rattle.runtime_worker.specs.Machines.{AreFirst, AreNew, EndsFor, IsAtEnd, IsMachineOf, SpawnsFor, doings}
use Rattle.runtime_run.specs.Machines.{MarksSpawned}

pub spawns_as : (ps : List Proc) (first : List (Option Suspended)) (s : ℕ) (results : List Chosen) (t : ℕ) → AreFirst ps first → AreSpawnedOnce ps → (m : Suspended) → SpawnsFor first m s results t → ProcessSpawns ps s m.machine.value.results t
spawns_as ps first s results t are once m h =
    let p = process_of ps first s m results are h.machine in
    let there = spawned_there ps first s results t are m h.machine h.stopped h.spawned in
    record {
      by = spawner_there ps first s results t are once m h.machine h.stopped h.spawned;
      at = record {
        within = omega arith;
        there = subst (λ (rs : List Chosen). HasSpawned ps s rs t) (sym (take-length m.machine.value.results)) there;
        first = λ n below has. h.not_before n below (spawned_fewer ps s t m.machine.value (take n m.machine.value.results) p.0 p.1 p.2 has);
      };
    }

-- a machine that has come to its end has ended
pub is_over : (m : Thread) (phase : Phase) → IsAtEnd phase → IsAfterAt m phase → IsOver (after (block_of m.body) m.variables m.thread m.results)
is_over m Ready at_end is = absurd at_end
is_over m (Open os ns) at_end is = absurd at_end
is_over m Over at_end is = subst IsOver (sym is) tt
is_over m (Stuck fault) at_end is = subst IsOver (sym is) tt
is_over m Broken at_end is = absurd at_end

pub ends_as : (ps : List Proc) (first : List (Option Suspended)) (t : ℕ) (results : List Chosen) → AreFirst ps first → (m : Suspended) → EndsFor first m t results → HasEnded ps t m.machine.value.results
ends_as ps first t results are m h =
    let p = process_of ps first t m results are h.0 in
    record {
      process = p.0;
      is_its = p.1;
      over = subst IsOver (after_of p.0 t m.machine.value p.2) (is_over m.machine.value m.machine.value.phase h.1 h.0.after);
    }

-- whatever place of a list of one value is read, that value is found
get_or-replicate-same : (n i : ℕ) → get_or (replicate n Unbound) i Unbound ≡ Unbound
get_or-replicate-same zero i = refl
get_or-replicate-same (suc n) zero = refl
get_or-replicate-same (suc n) (suc i) = get_or-replicate-same n i

-- no text spawns a process that does not wait
pub is_first : (ps : List Proc) (later t : ℕ) → MarksSpawned ps later → t < 64 → waits later t ≡ false → IsFirst ps t
is_first ps later t spawned low free = no_spawner t 0 ps (λ s p is. spawned t s p low free is)

-- So what machines do for their threads processes do, behind the results that the first ones had.
module _ (ps : List Proc) (first : List (Option Suspended)) (config : Config) (l : Ledger) (are : AreFirst ps first) (once : AreSpawnedOnce ps)
    (had : (t : ℕ) (start : Suspended) → slice_get first t ≡ Some (Some start) → start.machine.value.results ≡ config t) where
  pub all_given : (t : ℕ) (m : Suspended) (results : List Chosen) → IsMachineOf first m t results → m.machine.value.results ≡ config t ++ results
  all_given t m results is = is.given ∙ ap (λ (rs : List Chosen). rs ++ results) (had t is.start is.is_first)

  started_as : (before : ℕ → ℕ → Type 0) {t stamp : ℕ} → IsStarted before (acts_in doings first).starts l t stamp → IsStarted before (acts_behind ps config).starts l t stamp
  started_as before (StartedBefore {t} {stamp} was) = StartedBefore was
  started_as before (StartedBy {t} {stamp} s start running started results is does behind) =
      StartedBy s start running (started_as before started) results is
      (subst (λ (rs : List Chosen). ProcessSpawns ps s rs t) (all_given s does.0 results does.1.machine) (spawns_as ps first s results t are once does.0 does.1))
      behind

  pub acts_as : (before : Before) → ActsAs before (acts_in doings first) l → ActsAs before (acts_behind ps config) l
  acts_as before acts = record {
    stamps = acts.stamps;
    offers = λ r n o h. let s = acts.offers r n o h in record {
      results = s.results;
      count = s.count;
      are = s.are;
      offers = s.offers;
      nacks = s.nacks;
      standing = subst (λ (rs : List Chosen). ProcessOffers ps r.thread rs s.offers s.nacks) (all_given r.thread s.standing.0 s.results s.standing.1.0)
          (offers_as ps first r.thread s.standing.0 s.results s.offers s.nacks are s.standing.1);
      offered = s.offered;
      whole = s.whole;
      bound = s.bound;
      no_others = s.no_others;
    };
    starts = λ t start h. started_as before.started (acts.starts t start h);
    ends = λ t g h. ⊎_elim
        (λ was. inl was)
        (λ d. inr (record {
          results = d.results;
          count = d.count;
          are = d.are;
          does = subst (HasEnded ps t) (all_given t d.does.0 d.results d.does.1.0) (ends_as ps first t d.results are d.does.0 d.does.1);
        }))
        (acts.ends t g h);
  }

-- Of machines that were new at first, the ledger is one of the processes.
module _ (ps : List Proc) (first : List (Option Suspended)) (threads later : ℕ) (l : Ledger) (are : AreNew ps first) (once : AreSpawnedOnce ps) (few : threads ≤ 64) (spawned : MarksSpawned ps later) where
  acts_first : ActsAs (before_of (start_opening threads later)) (acts_in doings first) l → ActsAs (before_of (start_opening threads later)) (acts_behind ps no_results) l
  acts_first acts = acts_as ps first no_results l (new_first ps first are) once (λ t start e. (are.1 t start e).2.results) (before_of (start_opening threads later)) acts

  pub first_so : (t stamp : ℕ) → HadStarted (start_opening threads later) t stamp → IsFirst ps t × (stamp ≡ 0)
  first_so t stamp had =
      let so = first_started threads later t stamp had in
      (is_first ps later t spawned (omega (arith, so.0, few)) so.1, so.2)

  started_so : {t stamp : ℕ} → IsStarted (HadStarted (start_opening threads later)) (acts_behind ps no_results).starts l t stamp → IsStarted (nothing_before ps).started (acts_of ps).starts l t stamp
  started_so (StartedBefore {t} {stamp} had) = StartedBefore (first_so t stamp had)
  started_so (StartedBy {t} {stamp} s start running started results is does behind) = StartedBy s start running (started_so started) results is does behind

  pub ledger_of_processes : ActsAs (before_of (start_opening threads later)) (acts_in doings first) l → IsLedgerOf ps l
  ledger_of_processes told =
      let acts = acts_first told in record {
        stamps = acts.stamps ∙ start_greatest threads later;
        offers = acts.offers;
        starts = λ t start h. started_so (acts.starts t start h);
        ends = λ t g h. ⊎_elim (λ was. absurd (first_unended threads later t was.0)) (λ d. inr d) (acts.ends t g h);
      }

-- the opening of a first table tells of a run that has not begun
pub tells_first : (ps : List Proc) (threads later : ℕ) → threads ≤ 64 → MarksSpawned ps later → TellsRun ps [] (start_opening threads later)
tells_first ps threads later few spawned = record {
  started = λ t stamp had.
      let so = first_started threads later t stamp had in
      (AtOnce (is_first ps later t spawned (omega (arith, so.0, few)) so.1), subst (IsGreatest [] (CountsOf ps no_results t)) (sym so.2) (greatest-none (CountsOf ps no_results t)));
  ended = λ t had. absurd (first_unended threads later t had);
  threads = λ d t there has. absurd (omega (arith, there.1));
  nacks = λ n. subst (KnowsNack ps n.thread [] [] n.k) (ap fired_as (sym (nothing-bound n))) (λ g f. none-some f.chosen f.result);
  positive = λ n stamp is. let bad : Unbound ≡ Enabled stamp = sym (nothing-bound n) ∙ is in cc;
}
  where
    bound-nowhere : (n : NackName) (b : Bool) → cond b (get_or (replicate (threads * 64) Unbound) (n.thread * 64 + n.k) Unbound) Unbound ≡ Unbound
    bound-nowhere n true = get_or-replicate-same (threads * 64) (n.thread * 64 + n.k)
    bound-nowhere n false = refl

    nothing-bound : (n : NackName) → nack_state (start_opening threads later) n ≡ Unbound
    nothing-bound n = bound-nowhere n (ltb n.k 64)

-- the ledger of a world in which nothing was done is one of no processes
pub empty_ledger : IsLawful (ledger_of (start_world 1 1 1 0).table) × IsLedgerOf [] (ledger_of (start_world 1 1 1 0).table) × ((ledger_of (start_world 1 1 1 0).table).rows ≡ 1)
unfolding ledger_of start_world
empty_ledger = (
  lawful_ledger (start_world 1 1 1 0).table (kept_start 1 1 1 0 (omega arith) (omega arith)).linked,
  record {
    stamps = refl;
    offers = stands-ledger (ProcessOffers []) (start_world 1 1 1 0).table (stands-start (ProcessOffers []) 1 1 1 0);
    starts = starts-first 1 1 1 0 (nothing_before []).started (ProcessSpawns []) (λ t low free. (refl, refl));
    ends = ends-first 1 1 1 0 (λ t. ⊥) (HasEnded []);
  },
  refl,
)

-- the words of such a world
pub nothing_done : (words : List ℕ) → words ≡ with_lives 0 1 1 (replicate (1 * thread_len 1) 0) → ledger_of (record { threads = 1; rows = 1; words = words; opening = 0 }) ≡ ledger_of (start_world 1 1 1 0).table
unfolding start_world
nothing_done words is = ap (λ (ws : List ℕ). ledger_of (record { threads = 1; rows = 1; words = ws; opening = 0 })) is
