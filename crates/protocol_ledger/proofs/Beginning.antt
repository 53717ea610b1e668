-- A world in which a table goes on from an opening is kept: nothing of any row is written, and no stamp is above the opening's.
use Rattle.std.proofs.Common.{◌≡◌, ◌≢◌, ℕ, zero, suc, ◌+◌, ◌*◌, ◌%◌, ◌^◌, ◌<◌, ◌≤◌, ◌&&◌, true, false, cond, eqb, eqb-true, List, [], ◌∷◌, length, get_or, replicate, max, sym, refl, ap, ◌∙◌, subst, ⊎_elim, arith, Option, Some, None, is_some}
use Rattle.std.specs.Prelude.{unwrap_or}
use Rattle.std.specs.List.{fold}
use Rattle.std.proofs.lemmas.Bool.{cases_Bool, cases_lt, false≢true, true≢false, and_parts}
use Rattle.std.proofs.lemmas.List.{get_or_past, get_or-replicate, length-replicate}
use Rattle.protocol_values.specs.declared.Cell.{Cell}
use Rattle.protocol_values.specs.declared.Cell.TheVariants.{Fresh}
use Rattle.protocol_values.specs.declared.Course.{Course}
use Rattle.protocol_values.specs.declared.Course.TheVariants.{Unstarted, Running, Ended}
use Rattle.protocol_values.specs.declared.NackName.{NackName}
use Rattle.protocol_values.specs.declared.NackWord.{NackWord}
use Rattle.protocol_values.specs.declared.NackWord.TheVariants.{Unbound}
use Rattle.protocol_values.specs.declared.Row.{Row}
use Rattle.protocol_values.specs.Values.{joined_of}
use Rattle.protocol_values.specs.Words.{IsCourseInRange, IsNackWordInRange, cell_of, course_of, is_word_for, nack_of}
use Rattle.protocol_values.proofs.WordLemmas.{cell_of-zero, course_of-course_word, is_word_for-zero, nack_of-nack_word}
use Rattle.protocol_ledger.specs.declared.opening.Life.{Life}
use Rattle.protocol_ledger.specs.declared.opening.Life.TheVariants as life
use Rattle.protocol_ledger.specs.declared.opening.NackState.{NackState}
use Rattle.protocol_ledger.specs.declared.opening.NackState.TheVariants as nack
use Rattle.protocol_ledger.specs.Kept.{Kept}
use Rattle.protocol_ledger.specs.Openings.{AreFirstWords, Begins, Opening, course_for, greatest, held_first, is_running, stamp_in, state_in, thread_in, word_for}
use Rattle.protocol_ledger.specs.Tables.{Table, binding_at, bound_by, carried_at, carried_by, cell_at, course_at, is_fresh, is_nack, is_row, nack_says, names, start_of}
use Rattle.protocol_ledger.specs.Worlds.{World, holder_at, last_holder}
use Rattle.protocol_ledger.proofs.Keeping.{held_outside}
use Rattle.protocol_ledger.proofs.Linking.{some_inj}
use Rattle.protocol_ledger.proofs.Places.{row_inside}
use Rattle.protocol_ledger.proofs.Readings.{binding_outside, bound_is, bound_uncarried, carried_is, cell_inside, cell_outside, course_inside, course_outside, says_inside, says_outside}

-- THE GREATEST of some numbers

module _ {X : Type 0} (h : X → ℕ) where
  fold_above : (a : ℕ) (xs : List X) → a ≤ fold (λ most x. max most (h x)) a xs
  fold_above a [] = omega arith
  fold_above a (x ∷ xs) = let up = fold_above (max a (h x)) xs in omega arith

  fold_each : (a : ℕ) (xs : List X) (i : ℕ) (d : X) → i < length xs → h (get_or xs i d) ≤ fold (λ most x. max most (h x)) a xs
  fold_each a [] i d b = absurd (omega arith)
  fold_each a (x ∷ xs) zero d b = let up = fold_above (max a (h x)) xs in omega arith
  fold_each a (x ∷ xs) (suc i) d b = fold_each (max a (h x)) xs i d (omega arith)

  greatest_at : (xs : List X) (i : ℕ) (d : X) → h d ≡ 0 → h (get_or xs i d) ≤ fold (λ most x. max most (h x)) 0 xs
  greatest_at xs i d z = ⊎_elim
      (λ (b : i < length xs). fold_each 0 xs i d b)
      (λ (b : length xs ≤ i). let e : h (get_or xs i d) ≡ 0 = ap h (get_or_past xs i d b) ∙ z in omega arith)
      (cases_lt i (length xs))

-- no stamp of an opening is above its greatest
pub thread_below : (o : Opening) (t : ℕ) → (thread_in o t).1 ≤ greatest o
thread_below o t = let up = greatest_at (λ (x : Life × ℕ). x.1) o.threads t (life.Unstarted, 0) refl in omega arith

pub state_below : (o : Opening) (n : NackName) → stamp_in (state_in o n) ≤ greatest o
state_below o n = let up = greatest_at stamp_in o.nacks (n.thread * 64 + n.k) nack.Unbound refl in omega arith

-- WHAT FIRST WORDS READ AS

course_fits : (l : Life) (s : ℕ) → s ≤ 4294967295 → IsCourseInRange (course_for l s)
course_fits life.Unstarted s b = tt
course_fits life.Running s b = let low : s < 2 ^ 32 = omega arith in low
course_fits life.Ended s b = (omega arith, omega arith)

word_fits : (s : NackState) → stamp_in s ≤ 4294967295 → IsNackWordInRange (word_for s)
word_fits nack.Unbound b = tt
word_fits nack.Unsettled b = tt
word_fits nack.Dead b = omega arith
word_fits (nack.Enabled stamp) b = omega arith

start_for : (l : Life) (s : ℕ) → start_of (course_for l s) ≤ s
start_for life.Unstarted s = omega arith
start_for life.Running s = omega arith
start_for life.Ended s = omega arith

-- an end in an opening lies before all rows
ended_for : (l : Life) (s start sync : ℕ) → course_for l s ≡ Ended start (sync + 1) → ⊥
ended_for life.Unstarted s start sync e = let bad : Unstarted ≡ Ended start (sync + 1) = e in cc
ended_for life.Running s start sync e = let bad : Running s ≡ Ended start (sync + 1) = e in cc
ended_for life.Ended s start sync e = let z : 0 ≡ sync + 1 = ap sync_of e in absurd (omega arith)
  where
    sync_of : Course → ℕ
    sync_of Unstarted = 0
    sync_of (Running start) = 0
    sync_of (Ended start sync) = sync

bound_for : (s : NackState) → bound_by (word_for s) ≡ None
bound_for nack.Unbound = refl
bound_for nack.Unsettled = refl
bound_for nack.Dead = refl
bound_for (nack.Enabled stamp) = refl

carried_for : (s : NackState) (stamp : ℕ) → carried_by (word_for s) ≡ Some stamp → stamp ≤ stamp_in s
carried_for nack.Unbound stamp e = let bad : None ≡ Some stamp = e in cc
carried_for nack.Unsettled stamp e = let bad : None ≡ Some stamp = e in cc
carried_for nack.Dead stamp e = let z : 0 ≡ stamp = some_inj 0 stamp e in omega arith
carried_for (nack.Enabled s) stamp e = let z : s ≡ stamp = some_inj s stamp e in omega arith

module _ (o : Opening) (t : Table) (words : AreFirstWords o t) (room : greatest o ≤ 4294967295) where
  pub first_cell : (r : Row) → cell_at t r ≡ Fresh
  first_cell r = ⊎_elim
      (λ (e : is_row t r ≡ true).
      cell_inside t r e
      ∙ ap (λ w. unwrap_or (cell_of w) Fresh) (words.blank r 0 e (omega arith))
      ∙ ap (λ (c : Option Cell). unwrap_or c Fresh) cell_of-zero)
      (λ (e : is_row t r ≡ false). cell_outside t r e)
      (cases_Bool (is_row t r))

  pub first_says : (n : NackName) → is_nack t n ≡ true → nack_says t n ≡ word_for (state_in o n)
  first_says n e =
      says_inside t n e
      ∙ ap (λ w. unwrap_or (nack_of w) Unbound) (words.nacks n e)
      ∙ ap (λ (w : Option NackWord). unwrap_or w Unbound) (nack_of-nack_word (word_for (state_in o n)) (word_fits (state_in o n) (let b = state_below o n in omega arith)))

  pub first_binding : (n : NackName) → binding_at t n ≡ None
  first_binding n = ⊎_elim
      (λ (e : is_nack t n ≡ true). bound_is t n ∙ ap bound_by (first_says n e) ∙ bound_for (state_in o n))
      (λ (e : is_nack t n ≡ false). binding_outside t n e)
      (cases_Bool (is_nack t n))

  pub first_carried : (n : NackName) → is_nack t n ≡ true → carried_at t n ≡ carried_by (word_for (state_in o n))
  first_carried n e = carried_is t n ∙ ap carried_by (first_says n e)

  carried_below : (n : NackName) (stamp : ℕ) → carried_at t n ≡ Some stamp → stamp ≤ greatest o
  carried_below n stamp h = ⊎_elim
      (λ (e : is_nack t n ≡ true).
      let low = carried_for (state_in o n) stamp (sym (first_carried n e) ∙ h) in
      let up = state_below o n in
      omega arith)
      (λ (e : is_nack t n ≡ false). let bad : None ≡ Some stamp = sym (carried_is t n ∙ ap carried_by (says_outside t n e)) ∙ h in cc)
      (cases_Bool (is_nack t n))

  pub first_course : (p : ℕ) → p < t.threads → course_at t p ≡ course_for (thread_in o p).0 (thread_in o p).1
  first_course p h =
      course_inside t p h
      ∙ ap (λ w. unwrap_or (course_of w) Unstarted) (words.lives p h)
      ∙ ap (λ (c : Option Course). unwrap_or c Unstarted)
      (course_of-course_word (course_for (thread_in o p).0 (thread_in o p).1) (course_fits (thread_in o p).0 (thread_in o p).1 (let b = thread_below o p in omega arith)))

  first_start : (p : ℕ) → start_of (course_at t p) ≤ greatest o
  first_start p = ⊎_elim
      (λ (h : p < t.threads).
      let is : start_of (course_at t p) ≡ start_of (course_for (thread_in o p).0 (thread_in o p).1) = ap start_of (first_course p h) in
      let low = start_for (thread_in o p).0 (thread_in o p).1 in
      let up = thread_below o p in
      omega arith)
      (λ (h : t.threads ≤ p). let z : start_of (course_at t p) ≡ 0 = ap start_of (course_outside t p h) in omega arith)
      (cases_lt p t.threads)

  first_unended : (p start sync : ℕ) → course_at t p ≡ Ended start (sync + 1) → ⊥
  first_unended p start sync e = ⊎_elim
      (λ (h : p < t.threads). ended_for (thread_in o p).0 (thread_in o p).1 start sync (sym (first_course p h) ∙ e))
      (λ (h : t.threads ≤ p). let bad : Unstarted ≡ Ended start (sync + 1) = sym (course_outside t p h) ∙ e in cc)
      (cases_lt p t.threads)

-- WHO HOLDS ROWS FIRST

-- a row that is held is row 0 of a thread that runs
held_runs : (o : Opening) (seats : ℕ) (r : Row) → held_first o seats r ≢ None → (r.sync ≡ 0) × (is_running (thread_in o r.thread).0 ≡ true)
held_runs o seats r h = ⊎_elim
    (λ (e : (eqb r.sync 0 && is_running (thread_in o r.thread).0) ≡ true).
    let p = and_parts (eqb r.sync 0) (is_running (thread_in o r.thread).0) e in
    (eqb-true r.sync 0 p.0, p.1))
    (λ (e : (eqb r.sync 0 && is_running (thread_in o r.thread).0) ≡ false). absurd (h (ap (λ b. cond b (Some (r.thread % seats)) None) e)))
    (cases_Bool (eqb r.sync 0 && is_running (thread_in o r.thread).0))

runs_started : (l : Life) (s : ℕ) → is_running l ≡ true → course_for l s ≢ Unstarted
runs_started life.Unstarted s h e = false≢true h
runs_started life.Running s h e = let bad : Running s ≡ Unstarted = e in cc
runs_started life.Ended s h e = false≢true h

nobody_last : (threads t : ℕ) → get_or (replicate {A = Option ℕ} threads None) t None ≡ None
nobody_last threads t = ⊎_elim
    (λ (h : t < threads). get_or-replicate threads t None None h)
    (λ (h : threads ≤ t). let l = length-replicate {A = Option ℕ} threads None in get_or_past (replicate {A = Option ℕ} threads None) t None (omega arith))
    (cases_lt t threads)

module _ (o : Opening) (rows seats : ℕ) (w : World) (few_threads : length o.threads ≤ 64) (few_rows : rows ≤ 1024)
    (room : greatest o + length o.threads * rows ≤ 4294967295)
    (b : Begins o rows seats w) where
  low : greatest o ≤ 4294967295
  low = omega arith

  cells : (r : Row) → cell_at w.table r ≡ Fresh
  cells = first_cell o w.table b.words low

  -- a row that is held
  held_row_is : (r : Row) → holder_at w r ≢ None → is_row w.table r ≡ true
  held_row_is r h = ⊎_elim
      (λ (e : is_row w.table r ≡ true). e)
      (λ (e : is_row w.table r ≡ false). absurd (h (held_outside w r e)))
      (cases_Bool (is_row w.table r))

  runs : (r : Row) → holder_at w r ≢ None → (r.sync ≡ 0) × (is_running (thread_in o r.thread).0 ≡ true)
  runs r h = held_runs o seats r (λ e. h (b.held r (held_row_is r h) ∙ e))

  unlasted : (t : ℕ) → last_holder w t ≡ None
  unlasted t = ap (λ (l : List (Option ℕ)). get_or l t None) b.lasts ∙ nobody_last (length o.threads) t

  pub kept_begins : Kept w
  kept_begins = record {
    sized = b.words.sized;
    few_threads = subst (λ n. n ≤ 64) (sym b.threads) few_threads;
    few_rows = subst (λ n. n ≤ 1024) (sym b.rows_are) few_rows;
    room = subst (λ n. n ≤ 4294967295) (λ i. sym b.opening i + sym b.threads i * sym b.rows_are i) room;
    formed = record {
      rows = λ r p i k. ap (is_word_for p) (b.words.blank r p i k) ∙ is_word_for-zero p;
      nacks = λ n i.
          ap (λ x. is_some (nack_of x)) (b.words.nacks n i)
          ∙ ap (λ (x : Option NackWord). is_some x) (nack_of-nack_word (word_for (state_in o n)) (word_fits (state_in o n) (let s = state_below o n in let z = low in omega arith)));
      lives = λ p i.
          ap (λ x. is_some (course_of x)) (b.words.lives p i)
          ∙ ap (λ (x : Option Course). is_some x)
          (course_of-course_word (course_for (thread_in o p).0 (thread_in o p).1) (course_fits (thread_in o p).0 (thread_in o p).1 (let s = thread_below o p in let z = low in omega arith)));
    };
    linked = record {
      inside = λ r h. absurd (true≢false (sym (ap is_fresh (cells r)) ∙ h));
      in_turn = λ t g h. absurd (true≢false (sym (ap is_fresh (cells (record { thread = t; sync = g + 1 }))) ∙ h));
      alone = λ r j h k. let bad : None ≡ Some j = sym (ap joined_of (cells r)) ∙ h in cc;
      sides = λ r j p h k. let bad : None ≡ Some j = sym (ap joined_of (cells r)) ∙ h in cc;
      once = λ q r p h k. absurd (false≢true (sym (ap (λ (c : Cell). names (joined_of c) p) (cells q)) ∙ h));
      bounded = λ r j h. let bad : None ≡ Some j = sym (ap joined_of (cells r)) ∙ h in cc;
      lived = λ r h. absurd (true≢false (sym (ap is_fresh (cells r)) ∙ h));
      ended = λ t start sync h. absurd (first_unended o w.table b.words low t start sync h);
      starts = λ t. let s = first_start o w.table b.words low t in let e = b.opening in omega arith;
      carried = λ n stamp h. let s = carried_below o w.table b.words low n stamp h in let e = b.opening in omega arith;
      settled = bound_uncarried w.table;
    };
    held = λ t g seat h.
        let r : Row = record { thread = t; sync = g + 1 } in
        let first = (runs r (λ n. let bad : None ≡ Some seat = sym n ∙ h in cc)).0 in
        absurd (omega arith);
    bound = λ n c e h. let bad : None ≡ Some c = sym (first_binding o w.table b.words low n) ∙ e in cc;
    begun = λ r h e.
        let inside = (row_inside w.table r (held_row_is r h)).0 in
        runs_started (thread_in o r.thread).0 (thread_in o r.thread).1 (runs r h).1 (sym (first_course o w.table b.words low r.thread inside) ∙ e);
    begun_last = λ t h e. h (unlasted t);
    last_held = λ t g seat h e. let bad : None ≡ Some seat = sym (unlasted t) ∙ h in cc;
    seated = b.all_rows;
    seated_last = ap (λ (l : List (Option ℕ)). length l) b.lasts ∙ length-replicate (length o.threads) None ∙ sym b.threads;
    blank = λ r p i k n. b.words.blank r p i k;
  }
