-- What a worker still knows of rows once it has started a thread, or found it started.
use Rattle.std.proofs.Common.{◌≡◌, ◌≢◌, ◌⊎◌, ◌+◌, ◌<◌, ℕ, Bool, true, false, Contains, List, ap, arith, inl, inr, refl, subst, sym, ⊎_elim}
use Rattle.std.specs.Prelude.{drop}
use Rattle.protocol_values.specs.declared.Binding.{Binding}
use Rattle.protocol_values.specs.declared.NackName.{NackName}
use Rattle.protocol_values.specs.declared.Row.{Row}
use Rattle.thread.specs.After.{Chosen}
use Rattle.thread.specs.Machines.{HasStopped}
use Rattle.protocol_ledger.specs.Tables.{bound_row}
use Rattle.protocol_ledger.specs.Worlds.{first_row}
use Rattle.cell.specs.Attempts.{Finished, Started}
use Rattle.cell.specs.Calls.{GridOf}
use Rattle.cell_table.specs.declared.view.Seen.{Seen}
use Rattle.cell_table.specs.Sight.{Has, IsBefore, IsStand, LearnsOf, SawEnded}
use Rattle.runtime_worker.specs.Machines.{IsMachineOf, IsTable, IsUntouched, KeepsRows, LeavesOthers, SpawnedSince, SpawnsFor}
use Rattle.runtime_worker.specs.declared.resident.Suspended.{Suspended}
use Rattle.runtime_worker.proofs.Processes.{spawner_there}

-- WHERE SOMETHING WAS LEARNT of rows and of lives
module _ (About : Row → Type 0) (Lives : ℕ → Type 0) (s t : Seen) (learns : LearnsOf About (λ n. ⊥) Lives s t) where
  unopened : (r : Row) → (¬ About r) → ¬ Has s.opened r → ¬ Has t.opened r
  unopened r apart not_before h = ⊎_elim (λ (old : Has s.opened r). not_before old) (λ (b : About r). apart b) (learns.opened.1 r h)

  unbound : (r : Row) → ((n : NackName) (b : Binding) → Has s.bound (n, b) → bound_row n b ≢ r) → (n : NackName) (b : Binding) → Has t.bound (n, b) → bound_row n b ≢ r
  unbound r free n b h = ⊎_elim (λ (old : Has s.bound (n, b)). free n b old) (λ (none : ⊥). absurd none) (learns.bound.1 (n, b) h)

  unbegun : (r : Row) → ¬ Has s.begun r → ¬ Has t.begun r
  unbegun r not_before h = not_before (subst (λ (l : List Row). Has l r) learns.begun h)

  still_held : (r : Row) → Has s.held r → Has t.held r
  still_held r h = subst (λ (l : List Row). Has l r) (sym learns.held) h

  going : (p : ℕ) → ¬ Lives p → ¬ SawEnded s p → ¬ SawEnded t p
  going p unlearnt not_before h = ⊎_elim (λ (old : Has s.ended (p, h.0)). not_before (h.0, old)) (λ (life : Lives p). unlearnt life) (learns.ended.1 (p, h.0) h.1)

  stands_on : (rows : ℕ) (place : Row) → (¬ About place) → IsStand rows s place → IsStand rows t place
  stands_on rows place apart (inl here) = inl (still_held place here.0, unopened place apart here.1)
  stands_on rows place apart (inr last) = inr (last.0, subst (λ (l : List ℕ). Has l place.thread) (sym learns.lasts) last.1)

-- a row does not stand before itself, nor before one of another thread
not_itself : (place : Row) → ¬ IsBefore place place
not_itself place b = let no : place.sync + 1 ≡ place.sync = b.1 in omega (arith, no)

not_there : (place r : Row) → r.thread ≢ place.thread → ¬ IsBefore place r
not_there place r apart b = apart b.0

-- so it is behind a start
pub started_stands : (rows : ℕ) (s t : Seen) (place : Row) (p : ℕ) (answer : Bool) → Started s t place p answer → IsStand rows s place → IsStand rows t place
started_stands rows s t place p true started stand =
    let seen = started.0 in
    let now = stands_on (IsBefore place) (λ x. x ≡ place.thread) s seen started.2 rows place (not_itself place) stand in
    subst (λ (u : Seen). IsStand rows u place) (sym started.4) (⊎_elim (λ (here : Has seen.held place × (¬ Has seen.opened place)). inl (inr here.0, here.1)) (λ (last : (place.sync ≡ rows) × Has seen.lasts place.thread). inr last) now)
started_stands rows s t place p false started stand = stands_on (IsBefore place) (λ x. (x ≡ place.thread) ⊎ (x ≡ p)) s t started.0 rows place (not_itself place) stand

pub started_leaves : (s t : Seen) (place : Row) (p : ℕ) (answer : Bool) → Started s t place p answer → LeavesOthers place.thread s t
started_leaves s t place p true started r apart held untouched =
    let seen = started.0 in
    let Lives = λ (x : ℕ). x ≡ place.thread in
    subst (λ (u : Seen). Has u.held r × IsUntouched u r) (sym started.4) (
      inr (still_held (IsBefore place) Lives s seen started.2 r held),
      (unopened (IsBefore place) Lives s seen started.2 r (not_there place r apart) untouched.0, unbegun (IsBefore place) Lives s seen started.2 r untouched.1, unbound (IsBefore place) Lives s seen started.2 r untouched.2, going (IsBefore place) Lives s seen started.2 r.thread apart untouched.3),
    )
started_leaves s t place p false started r apart held untouched =
    let Lives = λ (x : ℕ). (x ≡ place.thread) ⊎ (x ≡ p) in
    let learns = started.0 in (
      still_held (IsBefore place) Lives s t learns r held,
      (
        unopened (IsBefore place) Lives s t learns r (not_there place r apart) untouched.0,
        unbegun (IsBefore place) Lives s t learns r untouched.1,
        unbound (IsBefore place) Lives s t learns r untouched.2,
        λ ended. ⊎_elim
            (λ (old : Has s.ended (r.thread, ended.0)). untouched.3 (ended.0, old))
            (λ (life : (r.thread ≡ place.thread) ⊎ (r.thread ≡ p)). ⊎_elim
            (λ (own : r.thread ≡ place.thread). absurd (apart own))
            (λ (same : r.thread ≡ p). untouched.3 (subst (SawEnded s) (sym same) (started.3 r same held untouched.0 (subst (SawEnded t) same ended))))
            life)
            (learns.ended.1 (r.thread, ended.0) ended.1),
      ),
    )

pub started_rows : (s t : Seen) (place : Row) (p : ℕ) (answer : Bool) → Started s t place p answer → KeepsRows s t
started_rows s t place p true started =
    let seen = started.0 in
    let learns = started.2 in
    subst (KeepsRows s) (sym started.4) ((λ r h. inr (still_held (IsBefore place) (λ x. x ≡ place.thread) s seen learns r h)), (λ r h. learns.opened.0 r h))
started_rows s t place p false started =
    let learns = started.0 in
    ((λ r h. still_held (IsBefore place) (λ x. (x ≡ place.thread) ⊎ (x ≡ p)) s t learns r h), (λ r h. learns.opened.0 r h))

-- and the thread that was started is to begin
pub started_begins : (s t : Seen) (place : Row) (p : ℕ) → Started s t place p true → place.thread ≢ p → Has t.held (first_row p) × IsUntouched t (first_row p)
started_begins s t place p started other =
    let seen = started.0 in
    let learns = started.2 in
    let unseen = started.5 in
    let Lives = λ (x : ℕ). x ≡ place.thread in
    let apart : p ≢ place.thread = λ e. other (sym e) in
    subst (λ (u : Seen). Has u.held (first_row p) × IsUntouched u (first_row p)) (sym started.4) (
      inl refl,
      (
        unopened (IsBefore place) Lives s seen learns (first_row p) (not_there place (first_row p) apart) (λ h. unseen.opened (first_row p) h refl),
        unbegun (IsBefore place) Lives s seen learns (first_row p) (λ h. unseen.begun (first_row p) h refl),
        unbound (IsBefore place) Lives s seen learns (first_row p) (λ n b h e. unseen.bound n b h (ap (λ (x : Row). x.thread) e)),
        going (IsBefore place) Lives s seen learns p apart unseen.ended,
      ),
    )

-- BEHIND AN END
pub finished_leaves : (s t : Seen) (place : Row) → Finished s t place → LeavesOthers place.thread s t
finished_leaves s t place finished r apart held untouched =
    let About = λ (q : Row). ⊥ in
    let Lives = λ (x : ℕ). x ≡ place.thread in
    let learns = finished.0 in (
      still_held About Lives s t learns r held,
      (unopened About Lives s t learns r (λ none. none) untouched.0, unbegun About Lives s t learns r untouched.1, unbound About Lives s t learns r untouched.2, going About Lives s t learns r.thread apart untouched.3),
    )

pub finished_rows : (s t : Seen) (place : Row) → Finished s t place → KeepsRows s t
finished_rows s t place finished = let learns = finished.0 in ((λ r h. still_held (λ q. ⊥) (λ x. x ≡ place.thread) s t learns r h), (λ r h. learns.opened.0 r h))

-- WHO IS STARTED
module _ (cells : GridOf Suspended) (table : IsTable cells) (place : Row) (within : place.thread < cells.threads) (m : Suspended) (earlier : List Chosen) (is : IsMachineOf cells.first m place.thread earlier) (stopped : HasStopped m.machine.value.phase) (p : ℕ) (spawned : Contains m.machine.value.spawned p) where
  -- a process that stands before the one whose machine spawned it
  pub starts_another : (p < cells.threads) × (place.thread ≢ p)
  starts_another =
      let before : p < place.thread = table.placed p place.thread (spawner_there table.processes cells.first place.thread earlier p table.first table.once m is stopped spawned) in
      ((omega (arith, before, within)), λ e. omega (arith, before, e))

  -- and which it spawns there and not before
  pub starts_now : (had : ℕ) → SpawnedSince m place.thread had → Contains (drop had m.machine.value.spawned) p → SpawnsFor cells.first m place.thread earlier p
  starts_now had since behind = record { machine = is; stopped = stopped; spawned = spawned; not_before = λ n below before. since p n behind below before }
