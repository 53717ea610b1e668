-- What a step does to a thread's course, and that threads which start and end as their results say do so however a schedule goes on.
use Rattle.std.proofs.Common.{◌≡◌, ◌≢◌, ◌⊎◌, ℕ, zero, suc, ◌<◌, ◌≤◌, ◌-◌, Bool, true, false, cond, eqb, List, [], ◌∷◌, length, Option, Some, None, is_some, sym, refl, ap, ◌∙◌, subst, arith, inl, inr, ⊎_elim}
use Rattle.std.proofs.lemmas.Bool.{cases_eq, cases_lt}
use Rattle.std.proofs.lemmas.List.{get_or_past}
use Rattle.protocol_values.specs.Words.{cell_word}
use Rattle.protocol_values.specs.declared.Cell.{Cell}
use Rattle.protocol_values.specs.declared.Cell.TheVariants.{Waiting, Claimed, Synched, Taken}
use Rattle.protocol_values.specs.declared.Course.{Course}
use Rattle.protocol_values.specs.declared.Course.TheVariants.{Unstarted, Running, Ended}
use Rattle.protocol_values.specs.declared.Joined.{Joined}
use Rattle.protocol_values.specs.declared.Row.{Row}
use Rattle.protocol_values.specs.declared.Seat.{Seat}
use Rattle.protocol_values.specs.declared.Step.{Step}
use Rattle.protocol_values.specs.declared.Step.TheVariants.{Draft, Open, Look, Read, Claim, Yield, Join, Seal, Grant, Take, Bind, Start, Finish}
use Rattle.protocol_values.specs.Values.{joined_of}
use Rattle.protocol_ledger.specs.declared.opening.Life.{Life}
use Rattle.protocol_ledger.specs.declared.opening.Life.TheVariants as life
use Rattle.protocol_ledger.specs.Acting.{Acts, ActsAs, Before, StartedBefore, DoesAt, EachEnded, EachStarted, EachStepsAs, EndedAs, EndsAt, HasStart, IsStampBehind, IsStarted, StartedAs, StartedBy}
use Rattle.protocol_ledger.specs.Growing.{GoesOn, GrowsTo}
use Rattle.protocol_ledger.specs.Kept.{Kept}
use Rattle.protocol_ledger.specs.Ledgers.{course_in, ledger_of}
use Rattle.protocol_ledger.specs.Openings.{Begins, HadEnded, HadStarted, Opening, course_for, first_life, greatest, start_opening, thread_in}
use Rattle.protocol_ledger.specs.Standing.{EachOpenedAs, Result}
use Rattle.protocol_ledger.specs.Tables.{Table, all_rows, cell_at, course_at, is_fresh, is_row, joined_at, last_stamp, marks_at, offer_at, row_stamp, start_of, synched_of}
use Rattle.protocol_ledger.specs.Worlds.{Allowed, Condition, Plays, StandsAt, World, after_step, ended_at, granted_by, joined_with, mirrored, nack_of_row, namer_at, sealed_by, start_world, waits, with_cell, with_seal, with_take}
use Rattle.protocol_ledger.proofs.Keeping.{end_in_range, held_row, is_held, kept_step, nack_of_thread, sealed_is, sealing, stamp_in_range, stands_behind, stands_inside, synched_is}
use Rattle.protocol_ledger.proofs.Causes.{last_behind}
use Rattle.protocol_ledger.proofs.Lawfulness.{commit_of_joined, in_of_joined, involves_own, stamp_own}
use Rattle.protocol_ledger.proofs.Beginning.{first_course}
use Rattle.protocol_ledger.proofs.LedgerLemmas.{course_in_ledger, kept_start, opening_in_ledger, first_thread, start_begins, start_greatest, start_threads}
use Rattle.protocol_ledger.proofs.LedgerReadings.{commits_in_table}
use Rattle.protocol_ledger.proofs.Linking.{some_parts, taken_joined}
use Rattle.protocol_ledger.proofs.Naming.{namer_names}
use Rattle.protocol_ledger.proofs.Onward.{grows-schedule, commit-stays, grows-step}
use Rattle.protocol_ledger.proofs.Readings.{course_after_bind, course_after_word, course_lived, course_lived_other, course_outside, row_of_open}
use Rattle.protocol_ledger.proofs.RowLemmas.{same_row}
use Rattle.protocol_ledger.proofs.Standing.{results-stay, rows-stand, stands-ledger}

-- COURSES
pub start_is : (c : Course) (stamp : ℕ) → HasStart c stamp → start_of c ≡ stamp
start_is Unstarted stamp h = absurd h
start_is (Running start) stamp h = h
start_is (Ended start sync) stamp h = h

pub started_as : (c : Course) → c ≢ Unstarted → HasStart c (start_of c)
started_as Unstarted n = absurd (n refl)
started_as (Running start) n = refl
started_as (Ended start sync) n = refl

pub start_stays : (c d : Course) (stamp : ℕ) → GoesOn c d → HasStart c stamp → HasStart d stamp
start_stays Unstarted d stamp on h = absurd h
start_stays (Running start) d stamp (inl is) h = subst (λ (x : Course). HasStart x stamp) (sym is) h
start_stays (Running start) d stamp (inr is) h = subst (λ (x : Course). HasStart x stamp) (sym is.1) h
start_stays (Ended start sync) d stamp on h = subst (λ (x : Course). HasStart x stamp) (sym on) h

start_of_ended : (c : Course) (sync stamp : ℕ) → c ≢ Unstarted → HasStart (ended_at c sync) stamp → HasStart c stamp
start_of_ended Unstarted sync stamp n h = absurd (n refl)
start_of_ended (Running start) sync stamp n h = h
start_of_ended (Ended start g) sync stamp n h = h

-- WHAT A STEP DOES TO A THREAD'S COURSE: nothing, or it starts or ends the thread
abbrev StartsNow : World → Step → ℕ → Course → Type 0
StartsNow w step t c = (row : Row) × (step ≡ Start row t) × (c ≡ Running (last_stamp (marks_at w.table) (joined_at w.table) row))

abbrev EndsNow : World → Step → ℕ → Course → Type 0
EndsNow w step t c = (row : Row) × (step ≡ Finish row) × (row.thread ≡ t) × (c ≡ ended_at (course_at w.table t) row.sync)

abbrev Goes : World → Step → ℕ → Course → Type 0
Goes w step t c = (c ≡ course_at w.table t) ⊎ (StartsNow w step t c ⊎ EndsNow w step t c)

cell-goes : (w : World) (x : Row) (c : Cell) → is_row w.table x ≡ true → (t : ℕ) → course_at (with_cell w.table x c) t ≡ course_at w.table t
unfolding with_cell
cell-goes w x c row t = ap (λ (f : ℕ → Course). f t) (course_after_word w.table x 0 (cell_word c) row (omega arith))

seal-goes : (w : World) (x : Row) → Kept w → cell_at w.table x ≡ Claimed → is_some (namer_at w x) ≡ true → (t : ℕ) → course_at (with_seal w.table x (sealed_by w.table (namer_at w x))) t ≡ course_at w.table t
seal-goes w x k f h t =
    let q = some_parts (namer_at w x) h in
    let s = sealing w.table x q.0 (namer_names (all_rows w.table.threads w.table.rows) (joined_at w.table) x q.0 q.1) in
    subst (λ (o : Option Joined). course_at (with_seal w.table x o) t ≡ course_at w.table t) (sym (sealed_is w.table x q.0 (namer_at w x) s q.1))
    (cell-goes w x (Synched (mirrored q.0 s.way s.offer)) (row_of_open w.table x (ap is_fresh f)) t)

take-goes : (w : World) (x : Row) → is_some (synched_of (cell_at w.table x)) ≡ true → (t : ℕ) → course_at (with_take w.table x (synched_of (cell_at w.table x))) t ≡ course_at w.table t
take-goes w x h t =
    let j = some_parts (synched_of (cell_at w.table x)) h in
    let is = synched_is (cell_at w.table x) j.0 j.1 in
    subst (λ (o : Option Joined). course_at (with_take w.table x o) t ≡ course_at w.table t) (sym j.1)
    (cell-goes w x (Taken j.0) (row_of_open w.table x (ap is_fresh is)) t)

course-goes : (w : World) (seat : Seat) (step : Step) → Kept w → Condition w seat step → (t : ℕ) → Goes w step t (course_at (after_step w seat step).table t)
course-goes w seat (Draft x p v) k (held, f, alive, a, b, g) t = inl (ap (λ (f : ℕ → Course). f t) (course_after_word w.table x p v (held_row w x seat.0 held) (omega arith)))
course-goes w seat (Open x) k a t = inl (cell-goes w x Waiting (held_row w x seat.0 a.0) t)
course-goes w seat (Look x) k a t = inl refl
course-goes w seat (Read x p) k a t = inl refl
course-goes w seat (Claim x) k a t = inl (cell-goes w x Claimed (held_row w x seat.0 a.0) t)
course-goes w seat (Yield x) k a t = inl (cell-goes w x Waiting (held_row w x seat.0 a.0) t)
course-goes w seat (Join mine own other partner) k a t = inl (cell-goes w other (Synched (joined_with w.table mine own other partner)) (row_of_open w.table other (ap is_fresh a.3)) t)
course-goes w seat (Seal x) k a t = inl (seal-goes w x k a.1 a.2 t)
course-goes w seat (Grant x n) k a t = inl (cell-goes w x (Synched (granted_by w.table x n)) (row_of_open w.table x (ap is_fresh a.0)) t)
course-goes w seat (Take x) k a t = inl (take-goes w x a t)
course-goes w seat (Bind n x scope) k a t = inl (ap (λ (f : ℕ → Course). f t) (course_after_bind w.table (nack_of_row x n) (record { sync = x.sync; scope = scope }) (nack_of_thread w.table x n (held_row w x seat.0 a.0) a.3)))
course-goes w seat (Start x thread) k a t =
    let stamp : ℕ = last_stamp (marks_at w.table) (joined_at w.table) x in
    ⊎_elim
    (λ (same : t ≡ thread). inr (inl (x, ap (Start x) (sym same), ap (course_at (after_step w seat (Start x thread)).table) same ∙ course_lived w.table thread (Running stamp) k.sized a.2 (stamp_in_range w x k))))
    (λ (other : t ≡ thread → ⊥). inl (course_lived_other w.table thread t (Running stamp) other))
    (cases_eq t thread)
course-goes w seat (Finish x) k a t =
    let c : Course = ended_at (course_at w.table x.thread) x.sync in
    ⊎_elim
    (λ (same : t ≡ x.thread). inr (inr (x, refl, sym same, ap (course_at (after_step w seat (Finish x)).table) same ∙ course_lived w.table x.thread c k.sized (stands_inside w seat x a.0).0 (end_in_range w seat x k a.0) ∙ ap (λ (n : ℕ). ended_at (course_at w.table n) x.sync) (sym same))))
    (λ (other : t ≡ x.thread → ⊥). inl (course_lived_other w.table x.thread t c other))
    (cases_eq t x.thread)

-- who stands at a place of a thread that has started
stands_begun : (w : World) (seat : Seat) (x : Row) → Kept w → StandsAt w seat x → course_at w.table x.thread ≢ Unstarted
stands_begun w seat x k (inl here) = k.begun x (is_held w x seat.0 here.0)
stands_begun w seat x k (inr here) = k.begun_last x.thread (λ none. let bad : None ≡ Some seat.0 = sym none ∙ here.2 in cc)

-- has behind him the stamp of his thread's last commit, or start
stamp-behind : (w : World) (seat : Seat) (x : Row) → Kept w → StandsAt w seat x → (n : ℕ) → x.sync ≡ n → IsStampBehind (ledger_of w.table) x.thread (start_of (course_at w.table x.thread)) n (last_stamp (marks_at w.table) (joined_at w.table) x)
stamp-behind w seat x k stands zero e =
    ap (λ (g : ℕ). cond (eqb g 0) (start_of (course_at w.table x.thread)) (row_stamp (joined_at w.table (record { thread = x.thread; sync = g - 1 })))) e
stamp-behind w seat x k stands (suc n) e =
    let before : Row = record { thread = x.thread; sync = n } in
    let joined = some_parts (joined_of (cell_at w.table before)) (taken_joined (cell_at w.table before) (stands_behind w seat x k stands n (e ∙ omega arith))) in
    let stamp : last_stamp (marks_at w.table) (joined_at w.table) x ≡ joined.0.stamp =
    ap (last_stamp (marks_at w.table) (joined_at w.table)) (same_row x (record { thread = x.thread; sync = suc n }) refl e)
    ∙ last_behind (marks_at w.table) (joined_at w.table) x.thread n ∙ ap row_stamp joined.1 in (
      (commit_of_joined w.table.threads w.table.rows (cell_at w.table) (offer_at w.table) (marks_at w.table) k.linked before joined.0 joined.1).0,
      commits_in_table w.table (commit_of_joined w.table.threads w.table.rows (cell_at w.table) (offer_at w.table) (marks_at w.table) k.linked before joined.0 joined.1).0
          (in_of_joined w.table.threads w.table.rows (cell_at w.table) (offer_at w.table) (marks_at w.table) k.linked before joined.0 joined.1),
      involves_own w.table.threads w.table.rows (cell_at w.table) (offer_at w.table) (marks_at w.table) k.linked before joined.0 joined.1,
      stamp_own w.table.threads w.table.rows (cell_at w.table) (offer_at w.table) (marks_at w.table) k.linked before joined.0 joined.1 ∙ sym stamp,
    )

-- AS A TABLE GROWS
module _ (w : World) (u : Table) (k : Kept w) (g : GrowsTo w.table u) where
  start-stays : (t stamp : ℕ) → HasStart (course_in (ledger_of w.table) t) stamp → HasStart (course_in (ledger_of u) t) stamp
  start-stays t stamp h =
      subst (λ (f : ℕ → Course). HasStart (f t) stamp) (sym (course_in_ledger u))
      (start_stays (course_at w.table t) (course_at u t) stamp (g.courses t) (subst (λ (f : ℕ → Course). HasStart (f t) stamp) (course_in_ledger w.table) h))

  behind-stays : (t start n stamp : ℕ) → IsStampBehind (ledger_of w.table) t start n stamp → IsStampBehind (ledger_of u) t start n stamp
  behind-stays t start zero stamp h = h
  behind-stays t start (suc n) stamp h = (h.0, commit-stays w u h.0 k g h.1, h.2, h.3)

  pub does-stay : (r : Row) (act : List Result → Type 0) → DoesAt (ledger_of w.table) r act → DoesAt (ledger_of u) r act
  does-stay r act d = record { results = d.results; count = d.count; are = results-stay w u r.thread d.results k g d.are; does = d.does }

  pub started-stays : (earlier : ℕ → ℕ → Type 0) (starts : ℕ → List Result → ℕ → Type 0) {t stamp : ℕ} → IsStarted earlier starts (ledger_of w.table) t stamp → IsStarted earlier starts (ledger_of u) t stamp
  started-stays earlier starts (StartedBefore first) = StartedBefore first
  started-stays earlier starts (StartedBy {t} {stamp} s start running started results are does behind) =
      StartedBy s start (start-stays s start running) (started-stays earlier starts started) results (results-stay w u s results k g are) does (behind-stays s start (length results) stamp behind)

-- A STEP keeps it, where what it starts or ends does so
module _ (w : World) (seat : Seat) (step : Step) (k : Kept w) (allowed : Allowed w seat step) where
  abbrev after : Table
  after = (after_step w seat step).table

  grown : GrowsTo w.table after
  grown = grows-step w seat step k allowed

  goes : (t : ℕ) → Goes w step t (course_at after t)
  goes t = course-goes w seat step k allowed.1 t

  pub starts-step : (earlier : ℕ → ℕ → Type 0) (starts : ℕ → List Result → ℕ → Type 0) → EachStarted earlier starts (ledger_of w.table) → StartedAs starts after step → EachStarted earlier starts (ledger_of after)
  starts-step earlier starts old new t stamp h =
      ⊎_elim
      (λ (same : course_at after t ≡ course_at w.table t). older (subst (λ (c : Course). HasStart c stamp) same here))
      (λ (other : StartsNow w step t (course_at after t) ⊎ EndsNow w step t (course_at after t)). ⊎_elim begun ended other)
      (goes t)
    where
      here : HasStart (course_at after t) stamp
      here = subst (λ (f : ℕ → Course). HasStart (f t) stamp) (course_in_ledger after) h

      before : (s x : ℕ) → HasStart (course_at w.table s) x → HasStart (course_in (ledger_of w.table) s) x
      before s x = subst (λ (f : ℕ → Course). HasStart (f s) x) (sym (course_in_ledger w.table))

      older : HasStart (course_at w.table t) stamp → IsStarted earlier starts (ledger_of after) t stamp
      older was = started-stays w after k grown earlier starts (old t stamp (before t stamp was))

      begun : StartsNow w step t (course_at after t) → IsStarted earlier starts (ledger_of after) t stamp
      begun (row, is, course) =
          let stands : StandsAt w seat row = (subst (Allowed w seat) is allowed).1.0 in
          let does : DoesAt (ledger_of after) row (λ results. starts row.thread results t) = subst (StartedAs starts after) is new in
          let start : ℕ = start_of (course_at w.table row.thread) in
          let running = before row.thread start (started_as (course_at w.table row.thread) (stands_begun w seat row k stands)) in
          let stamped : last_stamp (marks_at w.table) (joined_at w.table) row ≡ stamp = subst (λ (c : Course). HasStart c stamp) course here in
          StartedBy row.thread start (start-stays w after k grown row.thread start running) (started-stays w after k grown earlier starts (old row.thread start running))
          does.results does.are does.does
          (behind-stays w after k grown row.thread start (length does.results) stamp
          (subst (IsStampBehind (ledger_of w.table) row.thread start (length does.results)) stamped (stamp-behind w seat row k stands (length does.results) (sym does.count))))

      ended : EndsNow w step t (course_at after t) → IsStarted earlier starts (ledger_of after) t stamp
      ended (row, is, thread, course) =
          let stands : StandsAt w seat row = (subst (Allowed w seat) is allowed).1.0 in
          older (start_of_ended (course_at w.table t) row.sync stamp (subst (λ (n : ℕ). course_at w.table n ≢ Unstarted) thread (stands_begun w seat row k stands)) (subst (λ (c : Course). HasStart c stamp) course here))

  pub ends-step : (over : ℕ → Type 0) (ends : ℕ → List Result → Type 0) → EachEnded over ends (ledger_of w.table) → EndedAs ends after step → EachEnded over ends (ledger_of after)
  ends-step over ends old new t sync h =
      ⊎_elim
      (λ (same : course_at after t ≡ course_at w.table t). ⊎_elim
      (λ was. inl was)
      (λ does. inr (does-stay w after k grown (record { thread = t; sync = sync }) (ends t) does))
      (old t sync (subst (λ (f : ℕ → Course). EndsAt (f t) sync) (sym (course_in_ledger w.table)) (subst (λ (c : Course). EndsAt c sync) same here))))
      (λ (other : StartsNow w step t (course_at after t) ⊎ EndsNow w step t (course_at after t)). inr (⊎_elim begun ended other))
      (goes t)
    where
      here : EndsAt (course_at after t) sync
      here = subst (λ (f : ℕ → Course). EndsAt (f t) sync) (course_in_ledger after) h

      begun : StartsNow w step t (course_at after t) → DoesAt (ledger_of after) (record { thread = t; sync = sync }) (ends t)
      begun (row, is, course) = absurd (subst (λ (c : Course). EndsAt c sync) course here)

      ended : EndsNow w step t (course_at after t) → DoesAt (ledger_of after) (record { thread = t; sync = sync }) (ends t)
      ended (row, is, thread, course) =
          let same : row.sync ≡ sync = subst (λ (c : Course). EndsAt c sync) course here in
          subst (λ (r : Row). DoesAt (ledger_of after) r (ends r.thread)) (same_row row (record { thread = t; sync = sync }) thread same) (subst (EndedAs ends after) is new)

-- A SCHEDULE of such steps
acts-along : (earlier : ℕ → ℕ → Type 0) (over : ℕ → Type 0) (acts : Acts) (w v : World) (steps : List (Seat × Step)) → Kept w → EachStarted earlier acts.starts (ledger_of w.table) → EachEnded over acts.ends (ledger_of w.table) → Plays w steps v → EachStepsAs acts w steps
    → EachStarted earlier acts.starts (ledger_of v.table) × EachEnded over acts.ends (ledger_of v.table)
acts-along earlier over acts w v [] k started ended plays each = subst (λ (z : World). EachStarted earlier acts.starts (ledger_of z.table) × EachEnded over acts.ends (ledger_of z.table)) (sym plays) (started, ended)
acts-along earlier over acts w v (s ∷ steps) k started ended plays each =
    acts-along earlier over acts (after_step w s.0 s.1) v steps (kept_step w s.0 s.1 k plays.0)
    (starts-step w s.0 s.1 k plays.0 earlier acts.starts started each.0.starts) (ends-step w s.0 s.1 k plays.0 over acts.ends ended each.0.ends) plays.1 each.1

opens-along : (acts : Acts) (w : World) (steps : List (Seat × Step)) → EachStepsAs acts w steps → EachOpenedAs acts.offers w steps
opens-along acts w [] each = tt
opens-along acts w (s ∷ steps) each = (each.0.opens, opens-along acts (after_step w s.0 s.1) steps each.1)

-- WHERE A TABLE BEGINS, the threads are where its opening says
start_so : (l : Life) (stamp x : ℕ) → HasStart (course_for l stamp) x → (l ≢ life.Unstarted) × (stamp ≡ x)
start_so life.Unstarted stamp x h = absurd h
start_so life.Running stamp x h = ((λ e. let bad : life.Running ≡ life.Unstarted = e in cc), h)
start_so life.Ended stamp x h = ((λ e. let bad : life.Ended ≡ life.Unstarted = e in cc), h)

end_so : (l : Life) (stamp g : ℕ) → EndsAt (course_for l stamp) g → (l ≡ life.Ended) × (g ≡ 0)
end_so life.Unstarted stamp g h = absurd h
end_so life.Running stamp g h = absurd h
end_so life.Ended stamp g h = (refl, sym h)

module _ (o : Opening) (rows seats : ℕ) (w : World) (low : greatest o ≤ 4294967295) (b : Begins o rows seats w) where
  -- those that the table has not have not started there either
  pub first_course_at : (t : ℕ) → course_at w.table t ≡ course_for (thread_in o t).0 (thread_in o t).1
  first_course_at t = ⊎_elim
      (λ (h : t < w.table.threads). first_course o w.table b.words low t h)
      (λ (h : w.table.threads ≤ t).
      course_outside w.table t h
      ∙ ap (λ (x : Life × ℕ). course_for x.0 x.1) (sym (get_or_past o.threads t (life.Unstarted, 0) (let n = b.threads in omega arith))))
      (cases_lt t w.table.threads)

  first_course_in : (t : ℕ) → course_in (ledger_of w.table) t ≡ course_for (thread_in o t).0 (thread_in o t).1
  first_course_in t = ap (λ (f : ℕ → Course). f t) (course_in_ledger w.table) ∙ first_course_at t

  pub starts-begin : (earlier : ℕ → ℕ → Type 0) (starts : ℕ → List Result → ℕ → Type 0) → ((t stamp : ℕ) → HadStarted o t stamp → earlier t stamp) → EachStarted earlier starts (ledger_of w.table)
  starts-begin earlier starts so t stamp h =
      StartedBefore (so t stamp (start_so (thread_in o t).0 (thread_in o t).1 stamp (subst (λ (c : Course). HasStart c stamp) (first_course_in t) h)))

  pub ends-begin : (over : ℕ → Type 0) (ends : ℕ → List Result → Type 0) → ((t : ℕ) → HadEnded o t → over t) → EachEnded over ends (ledger_of w.table)
  ends-begin over ends so t g h =
      let e = end_so (thread_in o t).0 (thread_in o t).1 g (subst (λ (c : Course). EndsAt c g) (first_course_in t) h) in
      inl (so t e.0, e.1)

-- and in a first table those that do not wait have started, with no stamp
pub first_started : (threads later t stamp : ℕ) → HadStarted (start_opening threads later) t stamp → (t < threads) × (waits later t ≡ false) × (stamp ≡ 0)
first_started threads later t stamp h = ⊎_elim
    (λ (below : t < threads).
    let is = first_thread threads later t below in
    let so : (first_life later t).0 ≢ life.Unstarted = λ e. h.0 (ap (λ (x : Life × ℕ). x.0) is ∙ e) in
    (below, free (waits later t) so, sym h.1 ∙ ap (λ (x : Life × ℕ). x.1) is))
    (λ (above : threads ≤ t). absurd (h.0 (ap (λ (x : Life × ℕ). x.0) (get_or_past (start_opening threads later).threads t (life.Unstarted, 0) (let n = start_threads threads later in omega arith)))))
    (cases_lt t threads)
  where
    free : (b : Bool) → cond b life.Unstarted life.Running ≢ life.Unstarted → b ≡ false
    free true so = absurd (so refl)
    free false so = refl

pub first_unended : (threads later t : ℕ) → HadEnded (start_opening threads later) t → ⊥
first_unended threads later t h = ⊎_elim
    (λ (below : t < threads). running (waits later t) (sym (ap (λ (x : Life × ℕ). x.0) (first_thread threads later t below)) ∙ h))
    (λ (above : threads ≤ t).
    let none : (thread_in (start_opening threads later) t).0 ≡ life.Unstarted = ap (λ (x : Life × ℕ). x.0) (get_or_past (start_opening threads later).threads t (life.Unstarted, 0) (let n = start_threads threads later in omega arith)) in
    let bad : life.Unstarted ≡ life.Ended = sym none ∙ h in cc)
    (cases_lt t threads)
  where
    running : (b : Bool) → cond b life.Unstarted life.Running ≡ life.Ended → ⊥
    running true e = let bad : life.Unstarted ≡ life.Ended = e in cc
    running false e = let bad : life.Running ≡ life.Ended = e in cc

module _ (threads rows seats later : ℕ) where
  low_start : greatest (start_opening threads later) ≤ 4294967295
  low_start = let z = start_greatest threads later in omega arith

  pub starts-first : (earlier : ℕ → ℕ → Type 0) (starts : ℕ → List Result → ℕ → Type 0) → ((t : ℕ) → t < threads → waits later t ≡ false → earlier t 0) → EachStarted earlier starts (ledger_of (start_world threads rows seats later).table)
  starts-first earlier starts first =
      starts-begin (start_opening threads later) rows seats (start_world threads rows seats later) low_start (start_begins threads rows seats later) earlier starts
      (λ t stamp h. let so = first_started threads later t stamp h in subst (earlier t) (sym so.2) (first t so.0 so.1))

  pub ends-first : (over : ℕ → Type 0) (ends : ℕ → List Result → Type 0) → EachEnded over ends (ledger_of (start_world threads rows seats later).table)
  ends-first over ends =
      ends-begin (start_opening threads later) rows seats (start_world threads rows seats later) low_start (start_begins threads rows seats later) over ends
      (λ t h. absurd (first_unended threads later t h))

  first_opening : (start_world threads rows seats later).table.opening ≡ 0
  unfolding start_world
  first_opening = refl

  pub schedule-acts : (before : Before) (acts : Acts) (steps : List (Seat × Step)) (w : World) → threads ≤ 64 → rows ≤ 1024 → before.stamps ≡ 0 → ((t : ℕ) → t < threads → waits later t ≡ false → before.started t 0)
      → Plays (start_world threads rows seats later) steps w → EachStepsAs acts (start_world threads rows seats later) steps → ActsAs before acts (ledger_of w.table)
  schedule-acts before acts steps w few_threads few_rows none first plays each =
      let kept = kept_start threads rows seats later few_threads few_rows in
      let lives = acts-along before.started before.ended acts (start_world threads rows seats later) w steps kept (starts-first before.started acts.starts first) (ends-first before.ended acts.ends) plays each in record {
        stamps = opening_in_ledger w.table ∙ (grows-schedule (start_world threads rows seats later) w steps kept plays).opening ∙ first_opening ∙ sym none;
        offers = stands-ledger acts.offers w.table (rows-stand acts.offers threads rows seats later steps w few_threads few_rows plays (opens-along acts (start_world threads rows seats later) steps each));
        starts = lives.0;
        ends = lives.1;
      }
