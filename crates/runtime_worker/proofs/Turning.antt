-- What a worker knows of the machine that it has in hand: behind a first turn, behind a later one, and once threads were started.
use Rattle.std.proofs.Common.{◌≡◌, ◌≢◌, ◌⊎◌, ◌+◌, ◌≤◌, ◌∙◌, ◌++◌, ◌∷◌, [], ℕ, zero, suc, Bool, true, false, List, None, Option, Some, ap, arith, inl, inr, length, refl, slice_get, subst, sym, ⊎_elim}
use Rattle.std.specs.Prelude.{IfSome, IsTrue}
use Rattle.std.proofs.lemmas.List.{length-append}
use Rattle.std.proofs.lemmas.Option.{same_Some}
use Rattle.protocol_values.specs.declared.Binding.{Binding}
use Rattle.protocol_values.specs.declared.Message.{Message}
use Rattle.protocol_values.specs.declared.NackName.{NackName}
use Rattle.protocol_values.specs.declared.Row.{Row}
use Rattle.protocol_values.specs.Values.{next_row}
use Rattle.script_tree.specs.Processes.{Proc}
use Rattle.protocol_ledger.specs.Standing.{IsLeft}
use Rattle.protocol_ledger.specs.Tables.{bound_row}
use Rattle.thread.specs.After.{Chosen}
use Rattle.thread.specs.Machines.{HasStopped, IsAfter, IsOpen, SameProcess, StartsAs, Thread}
use Rattle.thread.specs.Memories.{AddsNew}
use Rattle.thread.specs.Ranges.{MessageIsIn}
use Rattle.cell.specs.Attempts.{Started}
use Rattle.cell.specs.Calls.{Fetched, FetchedAt, GridOf, Holds, PassOf}
use Rattle.cell_table.specs.declared.view.Seen.{Seen}
use Rattle.cell_table.specs.Sight.{Has, SawEnded, see_begun}
use Rattle.runtime_worker.specs.declared.resident.Suspended.{Suspended}
use Rattle.runtime_worker.specs.Machines.{IsMachineOf, IsNow, IsTable, SpawnedSince, doings}
use Rattle.cell.proofs.Lists.{all_none, all_one}
use Rattle.runtime_worker.proofs.Processes.{is_new, is_standing, process_of}
use Rattle.runtime_worker.proofs.Spawns.{begun_is, resumed_is, since_begun, since_resumed, standing_is}

-- BEHIND A FIRST TURN

-- a machine of which the test says so stands at no sync
pub not_standing : (start read : Thread) (answer : Bool) → read ≡ start → answer ≡ false → (IsOpen read.phase → IsTrue answer) → ¬ IsOpen start.phase
not_standing start read answer same none shows open_now = let some : answer ≡ true = shows (subst (λ (t : Thread). IsOpen t.phase) (sym same) open_now) in cc

module _ (cells : GridOf Suspended) (table : IsTable cells) (s : Seen) (p : PassOf Suspended) (r : Row) (start : Suspended) (first : r.sync ≡ 0) (alive : ¬ SawEnded s r.thread) (is_first : slice_get cells.first r.thread ≡ Some (Some start)) (seen : p.seen ≡ see_begun r s) where
  now_first : (m : Suspended) → IsMachineOf cells.first m r.thread [] → IsNow cells.first p r m
  now_first m is = record {
    earlier = [];
    count = sym first;
    seen = inl refl;
    machine = is;
    begun = λ zero. subst (λ (z : Seen). Has z.begun r) (sym seen) (inl refl);
    alive = subst (λ (z : Seen). ¬ SawEnded z r.thread) (sym seen) alive;
  }

  -- it had its process before it
  module _ (not_open : ¬ IsOpen start.machine.value.phase) where
    new : (q : Proc) × StartsAs q r.thread start.machine.value
    new = is_new table.processes cells.first r.thread start table.first is_first not_open

    pub now_begun : (m : Suspended) → SameProcess start.machine.value m.machine.value → m.machine.value.results ≡ [] → IsAfter m.machine.value → HasStopped m.machine.value.phase → IsNow cells.first p r m
    now_begun m same given is stopped =
        now_first m (begun_is cells.first start m r.thread is_first same new.1.results given is stopped (same.thread ∙ new.1.thread) (all_none (λ (c : Chosen). MessageIsIn c.1)))

    pub since_first : (m : Suspended) → m.machine.value.results ≡ [] → SpawnedSince m r.thread (length start.machine.value.spawned) × (length start.machine.value.spawned ≤ length m.machine.value.spawned)
    since_first m given = (since_begun m r.thread (length start.machine.value.spawned) given, (let none : length start.machine.value.spawned ≡ 0 = ap (λ (l : List ℕ). length l) new.1.spawned in omega (arith, none)))

  -- or stood at a sync
  pub now_standing : IsOpen start.machine.value.phase → IsNow cells.first p r start
  now_standing open_now =
      let at = is_standing table.processes cells.first r.thread start table.first is_first open_now in
      now_first start (standing_is cells.first start at.0 r.thread is_first at.1)

-- BEHIND A LATER ONE
module _ (cells : GridOf Suspended) (table : IsTable cells) (p : PassOf Suspended) (r : Row) (own : ℕ) (told : List Chosen) (got : Message) (old m : Suspended) (left : IsLeft doings cells.first old r own told got) (same : SameProcess old.machine.value m.machine.value)
    (given : m.machine.value.results ≡ old.machine.value.results ++ (own, got) ∷ []) (adds : AddsNew old.machine.value.spawned m.machine.value.spawned) where
  was : IsMachineOf cells.first old r.thread left.earlier
  was = left.standing.0

  abbrev result : Chosen
  result = (own, got)

  thread : m.machine.value.thread ≡ r.thread
  thread = same.thread ∙ (process_of table.processes cells.first r.thread old left.earlier table.first was).2.thread

  pub now_resumed : IsAfter m.machine.value → HasStopped m.machine.value.phase → MessageIsIn got → Has p.results (r.thread, told) → ¬ SawEnded p.seen r.thread → IsNow cells.first p (next_row r) m
  now_resumed is stopped in_range has alive = record {
    earlier = told;
    count = ap (λ (l : List Chosen). length l) left.whole ∙ length-append left.earlier (result ∷ []) ∙ ap (λ (n : ℕ). n + 1) left.count;
    seen = inr has;
    machine = subst (IsMachineOf cells.first m r.thread) (sym left.whole)
        (resumed_is cells.first old m r.thread left.earlier result was same given adds is stopped thread (all_one (λ (c : Chosen). MessageIsIn c.1) result in_range));
    begun = λ zero. absurd (omega (arith, zero));
    alive = alive;
  }

  pub since : SpawnedSince m r.thread (length old.machine.value.spawned)
  since = since_resumed cells.first old m r.thread left.earlier result was same given adds

  pub no_fewer : length old.machine.value.spawned ≤ length m.machine.value.spawned
  no_fewer = let size = ap (λ (l : List ℕ). length l) adds.1 ∙ length-append old.machine.value.spawned adds.0 in omega (arith, size)

-- what is fetched behind a row that was taken came out with it, and nothing was seen by that
module _ (cells : GridOf Suspended) (before after : PassOf Suspended) (next : Row) (fetched : Suspended) where
  fetched_at : (n k : ℕ) → n ≡ k + 1 → FetchedAt cells before after next fetched n → Holds before next (Some fetched) × (after.seen ≡ before.seen)
  fetched_at zero k e h = absurd (omega (arith, e))
  fetched_at (suc m) k e h = (h.0, h.1)

  front : List (ℕ × Option Suspended) → Option Suspended
  front [] = None
  front (x ∷ xs) = x.1

  pub fetched_later : (row : Row) (value : Suspended) → next ≡ next_row row → Holds before row (Some value) → Fetched cells before after next fetched → (value ≡ fetched) × (after.seen ≡ before.seen)
  unfolding front
  fetched_later row value is out h =
      let at = fetched_at next.sync row.sync (ap (λ (r : Row). r.sync) is) h in
      (same_Some value fetched (ap front (sym out ∙ at.0)), at.1)

-- ONCE A THREAD WAS STARTED
module _ (p q : PassOf Suspended) (place : Row) (other : ℕ) where
  pub now_started : (answer : Bool) → (first : List (Option Suspended)) (m : Suspended) → IsNow first p place m → Started p.seen q.seen place other answer → q.results ≡ p.results → IsNow first q place m
  now_started answer first m now started results = record {
    earlier = now.earlier;
    count = now.count;
    seen = subst (λ (l : List (ℕ × List Chosen)). (now.earlier ≡ []) ⊎ Has l (place.thread, now.earlier)) (sym results) now.seen;
    machine = now.machine;
    begun = λ zero. subst (λ (l : List Row). Has l place) (sym (begun_same answer started)) (now.begun zero);
    alive = going_on answer started;
  }
    where
      begun_same : (a : Bool) → Started p.seen q.seen place other a → q.seen.begun ≡ p.seen.begun
      begun_same true started = ap (λ (s : Seen). s.begun) started.4 ∙ started.2.begun
      begun_same false started = started.0.begun

      going_on : (a : Bool) → Started p.seen q.seen place other a → ¬ SawEnded q.seen place.thread
      going_on true started = started.6
      going_on false started = started.2

  -- no nack was seen bound anew
  pub free_started : (answer : Bool) → Started p.seen q.seen place other answer → ((n : NackName) (b : Binding) → Has p.seen.bound (n, b) → bound_row n b ≢ place) → (n : NackName) (b : Binding) → Has q.seen.bound (n, b) → bound_row n b ≢ place
  free_started true started free n b h = ⊎_elim (λ (old : Has p.seen.bound (n, b)). free n b old) (λ (none : ⊥). absurd none) (started.2.bound.1 (n, b) (subst (λ (s : Seen). Has s.bound (n, b)) started.4 h))
  free_started false started free n b h = ⊎_elim (λ (old : Has p.seen.bound (n, b)). free n b old) (λ (none : ⊥). absurd none) (started.0.bound.1 (n, b) h)

-- what is there has more to it
pub some_kept : {A : Type 0} (o : Option A) (P Q : A → Type 0) → ((x : A) → P x → Q x) → IfSome o P → IfSome o Q
some_kept None P Q f h = tt
some_kept (Some x) P Q f h = f x h
