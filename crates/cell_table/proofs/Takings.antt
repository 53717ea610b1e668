-- Only a take takes a row, and a row that is opened waits.
use Rattle.std.proofs.Common.{◌⊎◌, ◌≡◌, true, false, Option, is_some, sym, refl, ap, ◌∙◌, subst, arith, inl, inr, ⊎_elim}
use Rattle.std.proofs.lemmas.Bool.{true≢false}
use Rattle.protocol_values.specs.Words.{IsCellInRange}
use Rattle.protocol_values.specs.Values.{joined_of}
use Rattle.protocol_values.specs.declared.Cell.{Cell}
use Rattle.protocol_values.specs.declared.Cell.TheVariants.{Waiting, Claimed, Synched, Taken}
use Rattle.protocol_values.specs.declared.Course.TheVariants.{Running}
use Rattle.protocol_values.specs.declared.Joined.{Joined}
use Rattle.protocol_values.specs.declared.Row.{Row}
use Rattle.protocol_values.specs.declared.Seat.{Seat}
use Rattle.protocol_values.specs.declared.Step.{Step}
use Rattle.protocol_values.specs.declared.Step.TheVariants.{Draft, Open, Look, Read, Claim, Yield, Join, Seal, Grant, Take, Bind, Start, Finish}
use Rattle.protocol_ledger.specs.Kept.{Kept}
use Rattle.protocol_ledger.specs.Tables.{all_rows, cause_at, cell_at, course_at, is_fresh, is_row, is_taken, joined_at, last_stamp, marks_at, row_eq, synched_of}
use Rattle.protocol_ledger.specs.Worlds.{Allowed, Condition, World, after_step, ended_at, granted_by, joined_with, mirrored, nack_of_row, namer_at, sealed_by, with_cell, with_seal, with_take}
use Rattle.protocol_ledger.proofs.Keeping.{grant_in_range, held_row, join_in_range, nack_of_thread, seal_in_range, sealed_is, sealing, synched_is, waits_unjoined}
use Rattle.protocol_ledger.proofs.Linking.{some_parts}
use Rattle.protocol_ledger.proofs.Naming.{namer_names}
use Rattle.protocol_ledger.proofs.Readings.{cell_after_bind, cell_after_cell, cell_after_life, cell_after_word, joined_ranged, row_of_open}
use Rattle.protocol_ledger.proofs.RowLemmas.{put, put_other, put_same, row_cases}

abbrev WasTaken : World → Row → Type 0
WasTaken w r = is_taken (cell_at w.table r) ≡ true

-- what a cell is after it was written
written : (w : World) (x : Row) (c : Cell) → Kept w → is_row w.table x ≡ true → IsCellInRange c → (r : Row) → cell_at (with_cell w.table x c) r ≡ put (cell_at w.table) x c r
written w x c k row range r = ap (λ (f : Row → Cell). f r) (cell_after_cell w.table x c k.sized row range)

cell_takes : (w : World) (x : Row) (c : Cell) → Kept w → is_row w.table x ≡ true → IsCellInRange c → (r : Row) → is_taken (cell_at (with_cell w.table x c) r) ≡ true → WasTaken w r ⊎ ((r ≡ x) × (is_taken c ≡ true))
cell_takes w x c k row range r h = ⊎_elim
    (λ (e : r ≡ x). inr (e, ap is_taken (sym (put_same (cell_at w.table) x c) ∙ ap (put (cell_at w.table) x c) (sym e) ∙ sym (written w x c k row range r)) ∙ h))
    (λ (e : row_eq r x ≡ false). inl (ap is_taken (sym (put_other (cell_at w.table) x c r e) ∙ sym (written w x c k row range r)) ∙ h))
    (row_cases r x)

-- where another cell was written
cell_leaves : (w : World) (x : Row) (c : Cell) → Kept w → is_row w.table x ≡ true → IsCellInRange c → is_taken c ≡ false → (r : Row) → is_taken (cell_at (with_cell w.table x c) r) ≡ true → WasTaken w r
cell_leaves w x c k row range other r h = ⊎_elim
    (λ (was : WasTaken w r). was)
    (λ (now : (r ≡ x) × (is_taken c ≡ true)). absurd (true≢false (sym now.1 ∙ other)))
    (cell_takes w x c k row range r h)

seal_leaves : (w : World) (x : Row) → Kept w → cell_at w.table x ≡ Claimed → is_some (namer_at w x) ≡ true → (r : Row) → is_taken (cell_at (with_seal w.table x (sealed_by w.table (namer_at w x))) r) ≡ true → WasTaken w r
seal_leaves w x k f h r =
    let q = some_parts (namer_at w x) h in
    let s = sealing w.table x q.0 (namer_names (all_rows w.table.threads w.table.rows) (joined_at w.table) x q.0 q.1) in
    subst (λ (o : Option Joined). is_taken (cell_at (with_seal w.table x o) r) ≡ true → WasTaken w r) (sym (sealed_is w.table x q.0 (namer_at w x) s q.1))
    (cell_leaves w x (Synched (mirrored q.0 s.way s.offer)) k (row_of_open w.table x (ap is_fresh f)) (seal_in_range w x q.0 s k) refl r)

take_takes : (w : World) (x : Row) → Kept w → is_some (synched_of (cell_at w.table x)) ≡ true → (r : Row) → is_taken (cell_at (with_take w.table x (synched_of (cell_at w.table x))) r) ≡ true → WasTaken w r ⊎ (r ≡ x)
take_takes w x k h r =
    let j = some_parts (synched_of (cell_at w.table x)) h in
    let is = synched_is (cell_at w.table x) j.0 j.1 in
    subst (λ (o : Option Joined). is_taken (cell_at (with_take w.table x o) r) ≡ true → WasTaken w r ⊎ (r ≡ x)) (sym j.1)
    (λ taken. ⊎_elim
    (λ (was : WasTaken w r). inl was)
    (λ (now : (r ≡ x) × (is_taken (Taken j.0) ≡ true)). inr now.0)
    (cell_takes w x (Taken j.0) k (row_of_open w.table x (ap is_fresh is)) (joined_ranged w.table x j.0 (ap joined_of is)) r taken))

takes_condition : (w : World) (seat : Seat) (step : Step) → Kept w → Condition w seat step → (r : Row) → is_taken (cell_at (after_step w seat step).table r) ≡ true → WasTaken w r ⊎ (step ≡ Take r)
takes_condition w seat (Draft x p v) k (held, f, alive, a, b, g) r h = inl (ap is_taken (sym (cell_after_word w.table x r p v (held_row w x seat.0 held) a (omega arith))) ∙ h)
takes_condition w seat (Open x) k a r h = inl (cell_leaves w x Waiting k (held_row w x seat.0 a.0) tt refl r h)
takes_condition w seat (Look x) k a r h = inl h
takes_condition w seat (Read x p) k a r h = inl h
takes_condition w seat (Claim x) k a r h = inl (cell_leaves w x Claimed k (held_row w x seat.0 a.0) tt refl r h)
takes_condition w seat (Yield x) k a r h = inl (cell_leaves w x Waiting k (held_row w x seat.0 a.0) tt refl r h)
takes_condition w seat (Join mine own other partner) k a r h =
    inl (cell_leaves w other (Synched (joined_with w.table mine own other partner)) k (row_of_open w.table other (ap is_fresh a.3)) (join_in_range w mine own other partner k (waits_unjoined w other a.3) (held_row w mine seat.0 a.0) a.5) refl r h)
takes_condition w seat (Seal x) k a r h = inl (seal_leaves w x k a.1 a.2 r h)
takes_condition w seat (Grant x n) k a r h =
    let s = some_parts (cause_at w.table x n) a.1 in
    inl (cell_leaves w x (Synched (granted_by w.table x n)) k (row_of_open w.table x (ap is_fresh a.0)) (grant_in_range w x n s.0 k (waits_unjoined w x a.0) s.1) refl r h)
takes_condition w seat (Take x) k a r h = ⊎_elim
    (λ (was : WasTaken w r). inl was)
    (λ (now : r ≡ x). inr (ap Take (sym now)))
    (take_takes w x k a r h)
takes_condition w seat (Bind n x scope) k a r h = inl (ap is_taken (sym (cell_after_bind w.table (nack_of_row x n) (record { sync = x.sync; scope = scope }) r (nack_of_thread w.table x n (held_row w x seat.0 a.0) a.3))) ∙ h)
takes_condition w seat (Start x thread) k a r h = inl (ap is_taken (sym (cell_after_life w.table thread (Running (last_stamp (marks_at w.table) (joined_at w.table) x)) r)) ∙ h)
takes_condition w seat (Finish x) k a r h = inl (ap is_taken (sym (cell_after_life w.table x.thread (ended_at (course_at w.table x.thread) x.sync) r)) ∙ h)

-- a row that is taken after a step was taken before it, or the step takes it
pub takes_step : (w : World) (seat : Seat) (step : Step) → Kept w → Allowed w seat step → (r : Row) → is_taken (cell_at (after_step w seat step).table r) ≡ true → (is_taken (cell_at w.table r) ≡ true) ⊎ (step ≡ Take r)
takes_step w seat step k a r h = takes_condition w seat step k a.1 r h

-- a row that a step opens waits
pub opened_waits : (w : World) (seat : Seat) (x : Row) → Kept w → Allowed w seat (Open x) → cell_at (after_step w seat (Open x)).table x ≡ Waiting
opened_waits w seat x k a = written w x Waiting k (held_row w x seat.0 a.1.0) tt x ∙ put_same (cell_at w.table) x Waiting
