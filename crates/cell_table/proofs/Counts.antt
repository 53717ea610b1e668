-- How many offers rows have: no step but a draft changes the number, and none makes it greater than rows have room for.
use Rattle.std.specs.Bool.{⊤}
use Rattle.std.proofs.Common.{◌⊎◌, ◌≡◌, ◌≤◌, ℕ, true, false, Option, is_some, unwrap_or, sym, ap, ◌∙◌, subst, inl, inr, ⊎_elim, arith}
use Rattle.std.proofs.lemmas.Bool.{cases_eq}
use Rattle.protocol_values.specs.Words.{cell_word, count_of}
use Rattle.protocol_values.specs.declared.Cell.{Cell}
use Rattle.protocol_values.specs.declared.Cell.TheVariants.{Claimed, Synched, Taken, Waiting}
use Rattle.protocol_values.specs.declared.Course.TheVariants.{Running}
use Rattle.protocol_values.specs.declared.Joined.{Joined}
use Rattle.protocol_values.specs.declared.Row.{Row}
use Rattle.protocol_values.specs.declared.Seat.{Seat}
use Rattle.protocol_values.specs.declared.Step.{Step}
use Rattle.protocol_values.specs.declared.Step.TheVariants.{Draft, Open, Look, Read, Claim, Yield, Join, Seal, Grant, Take, Bind, Start, Finish}
use Rattle.protocol_ledger.specs.Kept.{Kept}
use Rattle.protocol_ledger.specs.Tables.{Table, all_rows, cell_at, course_at, is_fresh, is_row, joined_at, last_stamp, marks_at, row_eq, synched_of, word_at}
use Rattle.protocol_ledger.specs.Worlds.{Allowed, Condition, World, after_step, ended_at, granted_by, joined_with, mirrored, nack_of_row, namer_at, sealed_by, with_cell, with_seal, with_take, with_word}
use Rattle.protocol_ledger.proofs.Keeping.{held_row, nack_of_thread, sealed_is, sealing, synched_is}
use Rattle.protocol_ledger.proofs.Linking.{some_parts}
use Rattle.protocol_ledger.proofs.Naming.{namer_names}
use Rattle.protocol_ledger.proofs.Places.{is_row_after, is_row_bound, is_row_lived, word_bound, word_lived, word_other, word_same}
use Rattle.protocol_ledger.proofs.Readings.{row_of_open}
use Rattle.protocol_ledger.proofs.RowLemmas.{row_cases}

-- how many offers the word says
abbrev pub told_count : ℕ → ℕ
told_count v = unwrap_or (count_of v) 0

-- the step drafts no greater number
abbrev pub DraftsFew : ℕ → Step → Type 0
DraftsFew most (Draft r p v) = p ≡ 1 → unwrap_or (count_of v) 0 ≤ most
DraftsFew most (Open r) = ⊤
DraftsFew most (Look r) = ⊤
DraftsFew most (Read r p) = ⊤
DraftsFew most (Claim r) = ⊤
DraftsFew most (Yield r) = ⊤
DraftsFew most (Join r n q m) = ⊤
DraftsFew most (Seal r) = ⊤
DraftsFew most (Grant r n) = ⊤
DraftsFew most (Take r) = ⊤
DraftsFew most (Bind n r scope) = ⊤
DraftsFew most (Start r thread) = ⊤
DraftsFew most (Finish r) = ⊤

-- each row of the table has no greater number
abbrev pub HaveFew : ℕ → Table → Type 0
HaveFew most t = (r : Row) → is_row t r ≡ true → unwrap_or (count_of (word_at t r 1)) 0 ≤ most

-- a cell is written
cell_few : (most : ℕ) (w : World) (x : Row) (c : Cell) → is_row w.table x ≡ true → HaveFew most w.table → HaveFew most (with_cell w.table x c)
unfolding with_cell
cell_few most w x c row few r h =
    let was : is_row w.table r ≡ true = sym (is_row_after w.table x r 0 (cell_word c)) ∙ h in
    subst (λ n. unwrap_or (count_of n) 0 ≤ most) (sym (word_other w.table x r 0 1 (cell_word c) row was (omega arith) (omega arith) (inr (λ (z : 1 ≡ 0). absurd (omega arith))))) (few r was)

seal_few : (most : ℕ) (w : World) (x : Row) → Kept w → cell_at w.table x ≡ Claimed → is_some (namer_at w x) ≡ true → HaveFew most w.table → HaveFew most (with_seal w.table x (sealed_by w.table (namer_at w x)))
seal_few most w x k f h few =
    let q = some_parts (namer_at w x) h in
    let s = sealing w.table x q.0 (namer_names (all_rows w.table.threads w.table.rows) (joined_at w.table) x q.0 q.1) in
    subst (λ (o : Option Joined). HaveFew most (with_seal w.table x o)) (sym (sealed_is w.table x q.0 (namer_at w x) s q.1))
    (cell_few most w x (Synched (mirrored q.0 s.way s.offer)) (row_of_open w.table x (ap is_fresh f)) few)

take_few : (most : ℕ) (w : World) (x : Row) → is_some (synched_of (cell_at w.table x)) ≡ true → HaveFew most w.table → HaveFew most (with_take w.table x (synched_of (cell_at w.table x)))
take_few most w x h few =
    let j = some_parts (synched_of (cell_at w.table x)) h in
    let is = synched_is (cell_at w.table x) j.0 j.1 in
    subst (λ (o : Option Joined). HaveFew most (with_take w.table x o)) (sym j.1) (cell_few most w x (Taken j.0) (row_of_open w.table x (ap is_fresh is)) few)

few_condition : (most : ℕ) (w : World) (seat : Seat) (step : Step) → Kept w → Condition w seat step → DraftsFew most step → HaveFew most w.table → HaveFew most (after_step w seat step).table
few_condition most w seat (Draft x p v) k (held, f, alive, a, b, g) drafts few = λ r h.
    let row = held_row w x seat.0 held in
    let was : is_row w.table r ≡ true = sym (is_row_after w.table x r p v) ∙ h in
    let other : (row_eq r x ≡ false) ⊎ (1 ≡ p → ⊥) → unwrap_or (count_of (word_at (with_word w.table x p v) r 1)) 0 ≤ most =
    (λ d. subst (λ n. unwrap_or (count_of n) 0 ≤ most) (sym (word_other w.table x r p 1 v row was (omega arith) (omega arith) d)) (few r was)) in
    ⊎_elim
    (λ (same : r ≡ x). ⊎_elim
    (λ (first : p ≡ 1). subst (λ (z : Row × ℕ). unwrap_or (count_of (word_at (with_word w.table x p v) z.0 z.1)) 0 ≤ most) (λ i. (sym same i, first i))
    (subst (λ n. unwrap_or (count_of n) 0 ≤ most) (sym (word_same w.table x p v k.sized row (omega arith))) (drafts first)))
    (λ (n : p ≡ 1 → ⊥). other (inr (λ e. n (sym e))))
    (cases_eq p 1))
    (λ (e : row_eq r x ≡ false). other (inl e))
    (row_cases r x)
few_condition most w seat (Open x) k a drafts few = cell_few most w x Waiting (held_row w x seat.0 a.0) few
few_condition most w seat (Look x) k a drafts few = few
few_condition most w seat (Read x p) k a drafts few = few
few_condition most w seat (Claim x) k a drafts few = cell_few most w x Claimed (held_row w x seat.0 a.0) few
few_condition most w seat (Yield x) k a drafts few = cell_few most w x Waiting (held_row w x seat.0 a.0) few
few_condition most w seat (Join mine own other partner) k a drafts few = cell_few most w other (Synched (joined_with w.table mine own other partner)) (row_of_open w.table other (ap is_fresh a.3)) few
few_condition most w seat (Seal x) k a drafts few = seal_few most w x k a.1 a.2 few
few_condition most w seat (Grant x n) k a drafts few = cell_few most w x (Synched (granted_by w.table x n)) (row_of_open w.table x (ap is_fresh a.0)) few
few_condition most w seat (Take x) k a drafts few = take_few most w x a few
few_condition most w seat (Bind n x scope) k a drafts few = λ r h.
    let nack = nack_of_thread w.table x n (held_row w x seat.0 a.0) a.3 in
    let was : is_row w.table r ≡ true = sym (is_row_bound w.table (nack_of_row x n) (record { sync = x.sync; scope = scope }) r) ∙ h in
    subst (λ n. unwrap_or (count_of n) 0 ≤ most) (sym (word_bound w.table (nack_of_row x n) (record { sync = x.sync; scope = scope }) r 1 nack was (omega arith))) (few r was)
few_condition most w seat (Start x thread) k a drafts few = λ r h.
    let c = Running (last_stamp (marks_at w.table) (joined_at w.table) x) in
    let was : is_row w.table r ≡ true = sym (is_row_lived w.table thread c r) ∙ h in
    subst (λ n. unwrap_or (count_of n) 0 ≤ most) (sym (word_lived w.table thread c r 1 was (omega arith))) (few r was)
few_condition most w seat (Finish x) k a drafts few = λ r h.
    let c = ended_at (course_at w.table x.thread) x.sync in
    let was : is_row w.table r ≡ true = sym (is_row_lived w.table x.thread c r) ∙ h in
    subst (λ n. unwrap_or (count_of n) 0 ≤ most) (sym (word_lived w.table x.thread c r 1 was (omega arith))) (few r was)

pub few_step : (most : ℕ) (w : World) (seat : Seat) (step : Step) → Kept w → Allowed w seat step → DraftsFew most step → HaveFew most w.table → HaveFew most (after_step w seat step).table
few_step most w seat step k a drafts few = few_condition most w seat step k a.1 drafts few
