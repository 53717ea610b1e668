-- Each allowed step keeps a world kept, and so does a whole schedule.
use Rattle.std.proofs.Common.{inl, inr, ◌⊎◌, ◌≡◌, ◌≢◌, ℕ, zero, suc, ◌+◌, ◌*◌, ◌^◌, ◌<◌, ◌≤◌, true, false, cond, ltb, eqb, ◌&&◌, List, [], ◌∷◌, length, get_or, sym, refl, ap, ◌∙◌, subst, ⊎_elim, arith, Option, Some, None, is_some, max, get_or-set_other, length-set, set, unwrap_or, get_or-set_same, inl, true≢false}
use Rattle.std.specs.Prelude.{option_to_list}
use Rattle.std.specs.List.{sum_by}
use Rattle.std.proofs.lemmas.Bool.{cases_Bool, cases_order, false≢true, cases_eq, and_from, lt-ltb, ne_eqb}
use Rattle.std.proofs.lemmas.List.{length-append}
use Rattle.std.proofs.lemmas.List.Sums.{sum_by-cons}
use Rattle.protocol_values.specs.declared.NackName.{NackName}
use Rattle.protocol_values.specs.declared.Binding.{Binding}
use Rattle.protocol_values.specs.declared.NackWord.TheVariants.{Unbound}
use Rattle.protocol_values.specs.declared.Course.{Course}
use Rattle.protocol_values.specs.declared.Course.TheVariants.{Unstarted, Running, Ended}
use Rattle.protocol_values.specs.declared.Row.{Row}
use Rattle.protocol_values.specs.declared.Joined.{Joined}
use Rattle.protocol_values.specs.declared.Offer.{Offer}
use Rattle.protocol_values.specs.declared.Commit.{Commit}
use Rattle.protocol_values.specs.declared.Seat.{Seat}
use Rattle.protocol_values.specs.declared.Step.{Step}
use Rattle.protocol_values.specs.declared.Step.TheVariants.{Draft, Open, Look, Read, Claim, Yield, Join, Seal, Grant, Take, Bind, Start, Finish}
use Rattle.protocol_values.specs.declared.Cell.{Cell}
use Rattle.protocol_values.specs.declared.Cell.TheVariants.{Fresh, Waiting, Claimed, Synched, Taken}
use Rattle.protocol_values.proofs.WordLemmas.{cell_of-zero}
use Rattle.protocol_values.specs.Words.{cell_word, is_word_for, IsBindingInRange, IsCellInRange, IsJoinedInRange, IsRowInRange, IsCourseInRange, cell_of, course_word}
use Rattle.protocol_ledger.specs.Tables.{Table, Marks, course_at, marks_at, start_of, thread_len, is_row, is_nack, nack_says, binding_at, carried_at, bound_row, cause_of, cause_at, row_eq, all_rows, rows_below, cell_at, is_fresh, offer_at, offers_meet, names, joined_at, last_stamp, number_of, is_taken, synched_of, word_at}
use Rattle.protocol_values.specs.Values.{joined_of, next_row}
use Rattle.protocol_ledger.specs.Worlds.{World, HasEnded, IsAlive, StandsAt, begun, ended_at, first_row, last_holder, handed_last, with_course, with_lasts, holder_at, namer_at, Condition, Allowed, after_step, Plays, with_word, with_cell, with_table, joined_with, mirrored, other_side, side_of, sealed_by, with_seal, granted_by, handed, with_holders, with_take, with_nack, nack_of_row}
use Rattle.protocol_ledger.specs.Ledgers.{LivesAt, commits_of, told_at}
use Rattle.protocol_ledger.specs.Kept.{joined_by, IsFormed, Linked, Kept}
use Rattle.protocol_ledger.proofs.RowLemmas.{row_cases, put, put_same, put_other, same_row, row_ne, row_eq-false, once_all}
use Rattle.protocol_ledger.proofs.Linking.{some_parts, naming, fresh_not_joined, unnamed_idle, told_count, count_of_commits, sum_change, some_inj, taken_joined, alone_there, taken_open}
use Rattle.protocol_ledger.proofs.StepLemmas.{HasTurn, none_told, linked_plain, linked_join, linked_seal, last_bounded, linked_grant, linked_marks, cause_bounded}
use Rattle.protocol_ledger.proofs.Causes.{cause_alone}
use Rattle.protocol_ledger.proofs.Lawfulness.{both_offers}
use Rattle.protocol_ledger.proofs.Places.{row_inside, row_from, word_lived, is_row_after, block_inside, same_block, same_rest, word_other, word_bound}
use Rattle.protocol_ledger.proofs.Readings.{cell_after_word, cell_after_cell, offer_after_draft, offer_after_cell, formed_after_word, cell_is_formed, sized_after_word, row_of_open, cell_outside, binding_after_word, cell_after_bind, offer_after_bind, binding_kept, binding_was, bound_uncarried, carried_after_bind, carried_after_life, formed_after_bind, offer_below, cell_inside, joined_ranged, course_after_word, course_after_bind, marks_after_word, marks_after_cell, cell_after_life, offer_after_life, binding_after_life, course_lived, course_lived_other, course_ranged, formed_after_life}
use Rattle.protocol_ledger.proofs.Naming.{namer_names, no_namer}

-- HOW MANY COMMITS THERE ARE at most

pub length_below : (t g : ℕ) → length (rows_below t g) ≡ g
length_below t zero = refl
length_below t (suc g) = length-append (rows_below t g) _ ∙ (let h = length_below t g in omega arith)

pub length_all : (t g : ℕ) → length (all_rows t g) ≡ t * g
length_all zero g = omega arith
length_all (suc t) g =
    length-append (all_rows t g) (rows_below t g) ∙ (let h = length_all t g in let k = length_below t g in omega arith)

tells_one : (joined : Row → Option Joined) (offer : Row → ℕ → Option Offer) (r : Row) → told_count joined offer r ≤ 1
tells_one joined offer r = at_most (told_at joined offer r)
  where
    at_most : (o : Option Commit) → length (option_to_list o) ≤ 1
    at_most None = omega arith
    at_most (Some c) = omega arith

few_in_sum : (f : Row → ℕ) → ((r : Row) → f r ≤ 1) → (rs : List Row) → sum_by f rs ≤ length rs
few_in_sum f one [] = omega arith
few_in_sum f one (r ∷ rs) =
    let s = sum_by-cons f r rs in
    let h = few_in_sum f one rs in
    let k = one r in
    omega arith

-- one for each row
pub few_commits : (threads rows : ℕ) (joined : Row → Option Joined) (offer : Row → ℕ → Option Offer) → length (commits_of (all_rows threads rows) joined offer) ≤ threads * rows
few_commits threads rows joined offer =
    let c = count_of_commits (all_rows threads rows) joined offer in
    let s = few_in_sum (told_count joined offer) (tells_one joined offer) (all_rows threads rows) in
    let l = length_all threads rows in
    omega arith

-- and one less where some row is not joined
pub fewer_commits : (threads rows : ℕ) (joined : Row → Option Joined) (offer : Row → ℕ → Option Offer) (x : Row) → x.thread < threads → x.sync < rows → joined x ≡ None → length (commits_of (all_rows threads rows) joined offer) < threads * rows
fewer_commits threads rows joined offer x h k free =
    let rs : List Row = all_rows threads rows in
    let f : Row → ℕ = told_count joined offer in
    let c = count_of_commits rs joined offer in
    let l = length_all threads rows in
    let more : sum_by (put f x 1) rs + f x ≡ sum_by f rs + put f x 1 x = sum_change f (put f x 1) x rs (once_all threads rows x h k) (λ r e. put_other f x 1 r e) in
    let none : f x ≡ 0 = none_told joined offer x free in
    let one : put f x 1 x ≡ 1 = put_same f x 1 in
    let few : sum_by (put f x 1) rs ≤ length rs = few_in_sum (put f x 1) at_most rs in
    omega arith
  where
    at_most : (r : Row) → put (told_count joined offer) x 1 r ≤ 1
    at_most r = ⊎_elim
        (λ (e : r ≡ x). let is : put (told_count joined offer) x 1 r ≡ 1 = ap (put (told_count joined offer) x 1) e ∙ put_same (told_count joined offer) x 1 in omega arith)
        (λ (e : row_eq r x ≡ false). let is : put (told_count joined offer) x 1 r ≡ told_count joined offer r = put_other (told_count joined offer) x 1 r e in let t = tells_one joined offer r in omega arith)
        (row_cases r x)

-- WHO HOLDS A ROW

-- rows have numbers of their own
pub same_number : (t : Table) (r x : Row) → is_row t r ≡ true → is_row t x ≡ true → number_of t.rows r ≡ number_of t.rows x → r ≡ x
same_number t r x h k e =
    let a = row_inside t r h in
    let b = row_inside t x k in
    same_row r x (same_block r.thread x.thread r.sync x.sync t.rows a.1 b.1 e) (same_rest r.thread x.thread r.sync x.sync t.rows a.1 b.1 e)

pub held_row : (w : World) (r : Row) (seat : ℕ) → holder_at w r ≡ Some seat → is_row w.table r ≡ true
unfolding holder_at
held_row w r seat h = ⊎_elim
    (λ (e : is_row w.table r ≡ true). e)
    (λ (e : is_row w.table r ≡ false).
    let bad : None ≡ Some seat = sym (ap (λ b. cond b (get_or w.holders (number_of w.table.rows r) None) None) e) ∙ h in
    cc)
    (cases_Bool (is_row w.table r))

pub holder_same : (w : World) (t : Table) (r : Row) → t.threads ≡ w.table.threads → t.rows ≡ w.table.rows → holder_at (with_table w t) r ≡ holder_at w r
unfolding holder_at is_row
holder_same w t r h k = λ i. cond (ltb r.thread (h i) && ltb r.sync (k i)) (get_or w.holders (number_of (k i) r) None) None

same_is_row : (t u : Table) (r : Row) → t.threads ≡ u.threads → t.rows ≡ u.rows → is_row t r ≡ is_row u r
unfolding is_row
same_is_row t u r h k = λ i. ltb r.thread (h i) && ltb r.sync (k i)

pub threads_lived : (t : Table) (p : ℕ) (c : Course) → (with_course t p c).threads ≡ t.threads
unfolding with_course
threads_lived t p c = refl

pub rows_lived : (t : Table) (p : ℕ) (c : Course) → (with_course t p c).rows ≡ t.rows
unfolding with_course
rows_lived t p c = refl

pub opening_lived : (t : Table) (p : ℕ) (c : Course) → (with_course t p c).opening ≡ t.opening
unfolding with_course
opening_lived t p c = refl

length_lived : (t : Table) (p : ℕ) (c : Course) → length (with_course t p c).words ≡ length t.words
unfolding with_course
length_lived t p c = length-set t.words _ (course_word c)

pub begun_rows : (t u : Table) (holders : List (Option ℕ)) (seat : Seat) (p : ℕ) → u.rows ≡ t.rows → begun u holders seat p ≡ begun t holders seat p
unfolding begun
begun_rows t u holders seat p e = λ i. set holders (number_of (e i) (first_row p)) (Some seat.0)

-- THE HOLDERS, once the row behind x is handed over

pub handed_same : (t u : Table) (holders : List (Option ℕ)) (seat : Seat) (x : Row) → u.threads ≡ t.threads → u.rows ≡ t.rows → handed u holders seat x ≡ handed t holders seat x
unfolding handed is_row
handed_same t u holders seat x a b = λ i. cond (ltb x.thread (a i) && ltb (x.sync + 1) (b i)) (set holders (number_of (b i) (next_row x)) (Some seat.0)) holders

handed_there : (t : Table) (holders : List (Option ℕ)) (seat : Seat) (x : Row) → is_row t (next_row x) ≡ true → handed t holders seat x ≡ set holders (number_of t.rows (next_row x)) (Some seat.0)
unfolding handed
handed_there t holders seat x e = ap (λ b. cond b (set holders (number_of t.rows (next_row x)) (Some seat.0)) holders) e

handed_nowhere : (t : Table) (holders : List (Option ℕ)) (seat : Seat) (x : Row) → is_row t (next_row x) ≡ false → handed t holders seat x ≡ holders
unfolding handed
handed_nowhere t holders seat x e = ap (λ b. cond b (set holders (number_of t.rows (next_row x)) (Some seat.0)) holders) e

pub length_handed : (t : Table) (holders : List (Option ℕ)) (seat : Seat) (x : Row) → length (handed t holders seat x) ≡ length holders
length_handed t holders seat x = ⊎_elim
    (λ (e : is_row t (next_row x) ≡ true). ap (λ (hs : List (Option ℕ)). length hs) (handed_there t holders seat x e) ∙ length-set holders _ (Some seat.0))
    (λ (e : is_row t (next_row x) ≡ false). ap (λ (hs : List (Option ℕ)). length hs) (handed_nowhere t holders seat x e))
    (cases_Bool (is_row t (next_row x)))

pub held_inside : (w : World) (r : Row) → is_row w.table r ≡ true → holder_at w r ≡ get_or w.holders (number_of w.table.rows r) None
unfolding holder_at
held_inside w r e = ap (λ b. cond b (get_or w.holders (number_of w.table.rows r) None) None) e

pub held_outside : (w : World) (r : Row) → is_row w.table r ≡ false → holder_at w r ≡ None
unfolding holder_at
held_outside w r e = ap (λ b. cond b (get_or w.holders (number_of w.table.rows r) None) None) e

-- the seat holds it
pub hand_next : (w : World) (seat : Seat) (x : Row) → length w.holders ≡ w.table.threads * w.table.rows → is_row w.table (next_row x) ≡ true → holder_at (with_holders w (handed w.table w.holders seat x)) (next_row x) ≡ Some seat.0
hand_next w seat x sized e =
    let inside = row_inside w.table (next_row x) e in
    let below = block_inside x.thread w.table.threads (x.sync + 1) w.table.rows inside.0 inside.1 in
    held_inside (with_holders w (handed w.table w.holders seat x)) (next_row x) e
    ∙ ap (λ (hs : List (Option ℕ)). get_or hs (number_of w.table.rows (next_row x)) None) (handed_there w.table w.holders seat x e)
    ∙ get_or-set_same w.holders (number_of w.table.rows (next_row x)) (Some seat.0) None (omega arith)

-- and all other rows are held as before
pub hand_other : (w : World) (seat : Seat) (x r : Row) → row_eq r (next_row x) ≡ false → holder_at (with_holders w (handed w.table w.holders seat x)) r ≡ holder_at w r
hand_other w seat x r n = ⊎_elim
    (λ (k : is_row w.table r ≡ true). ⊎_elim
    (λ (e : is_row w.table (next_row x) ≡ true).
    held_inside (with_holders w (handed w.table w.holders seat x)) r k
    ∙ ap (λ (hs : List (Option ℕ)). get_or hs (number_of w.table.rows r) None) (handed_there w.table w.holders seat x e)
    ∙ get_or-set_other w.holders (number_of w.table.rows (next_row x)) (number_of w.table.rows r) (Some seat.0) None (λ d. row_eq-false r (next_row x) n (same_number w.table r (next_row x) k e d))
    ∙ sym (held_inside w r k))
    (λ (e : is_row w.table (next_row x) ≡ false).
    held_inside (with_holders w (handed w.table w.holders seat x)) r k
    ∙ ap (λ (hs : List (Option ℕ)). get_or hs (number_of w.table.rows r) None) (handed_nowhere w.table w.holders seat x e)
    ∙ sym (held_inside w r k))
    (cases_Bool (is_row w.table (next_row x))))
    (λ (k : is_row w.table r ≡ false). held_outside (with_holders w (handed w.table w.holders seat x)) r k ∙ sym (held_outside w r k))
    (cases_Bool (is_row w.table r))

-- a row that some seat holds is held
pub is_held : (w : World) (r : Row) (seat : ℕ) → holder_at w r ≡ Some seat → holder_at w r ≢ None
is_held w r seat h n = let bad : Some seat ≡ None = sym h ∙ n in cc

-- a row that is open, or held, has its turn
turn_open : (w : World) (r : Row) → Kept w → is_fresh (cell_at w.table r) ≡ false → HasTurn w.table.threads w.table.rows (cell_at w.table) (marks_at w.table) r
turn_open w r k f = record {
  inside = k.linked.inside r f;
  turn = λ g e. k.linked.in_turn r.thread g (ap (λ n. is_fresh (cell_at w.table (record { thread = r.thread; sync = n }))) (sym e) ∙ f);
  lives = k.linked.lived r f;
}

-- a thread that has started and not ended lives at each of its rows
alive_lives : (c : Course) (g : ℕ) → c ≢ Unstarted → (HasEnded c → ⊥) → LivesAt c g
alive_lives Unstarted g n a = absurd (n refl)
alive_lives (Running start) g n a = tt
alive_lives (Ended start sync) g n a = absurd (a tt)

turn_held : (w : World) (r : Row) (seat : ℕ) → Kept w → holder_at w r ≡ Some seat → IsAlive w r.thread → HasTurn w.table.threads w.table.rows (cell_at w.table) (marks_at w.table) r
turn_held w r seat k h alive = record {
  inside = row_inside w.table r (held_row w r seat h);
  turn = λ g e. k.held r.thread g seat (ap (λ n. holder_at w (record { thread = r.thread; sync = n })) (sym e) ∙ h);
  lives = alive_lives (course_at w.table r.thread) r.sync (k.begun r (is_held w r seat h)) alive;
}

-- an open row is held
pub open_held : (w : World) (r : Row) → Kept w → is_fresh (cell_at w.table r) ≡ false → holder_at w r ≢ None
open_held w r k f n =
    let row = row_of_open w.table r f in
    let fresh : cell_at w.table r ≡ Fresh =
    cell_inside w.table r row
    ∙ ap (λ v. unwrap_or (cell_of v) Fresh) (k.blank r 0 row (omega arith) n)
    ∙ ap (λ (o : Option Cell). unwrap_or o Fresh) cell_of-zero in
    true≢false (sym (ap is_fresh fresh) ∙ f)

-- the rows before an open row, and before one that is held, are taken
taken_before_open : (w : World) → Kept w → (t g h : ℕ) → is_fresh (cell_at w.table (record { thread = t; sync = g })) ≡ false → h < g → is_taken (cell_at w.table (record { thread = t; sync = h })) ≡ true
taken_before_open w k t zero h f b = absurd (omega arith)
taken_before_open w k t (suc g) h f b =
    let last : is_taken (cell_at w.table (record { thread = t; sync = g })) ≡ true = k.linked.in_turn t g (ap (λ n. is_fresh (cell_at w.table (record { thread = t; sync = n }))) (omega arith) ∙ f) in
    ⊎_elim
    (λ (e : h ≡ g). ap (λ n. is_taken (cell_at w.table (record { thread = t; sync = n }))) e ∙ last)
    (λ (n : h ≡ g → ⊥). taken_before_open w k t g h (taken_open (cell_at w.table (record { thread = t; sync = g })) last) (omega (arith, n)))
    (cases_eq h g)

pub taken_before : (w : World) → Kept w → (r q : Row) → q.thread ≡ r.thread → r.sync < q.sync → (is_fresh (cell_at w.table q) ≡ false) ⊎ ((seat : ℕ) × (holder_at w q ≡ Some seat)) → is_taken (cell_at w.table r) ≡ true
taken_before w k r q same below (inl f) =
    taken_before_open w k r.thread q.sync r.sync (ap (λ n. is_fresh (cell_at w.table (record { thread = n; sync = q.sync }))) (sym same) ∙ f) below
taken_before w k r q same below (inr (seat, h)) = by_sync q.sync refl
  where
    by_sync : (n : ℕ) → q.sync ≡ n → is_taken (cell_at w.table r) ≡ true
    by_sync zero e = absurd (omega arith)
    by_sync (suc n) e =
        let held : holder_at w (record { thread = r.thread; sync = n + 1 }) ≡ Some seat =
        (λ i. holder_at w (record { thread = sym same i; sync = (let m : n + 1 ≡ q.sync = omega arith in m) i })) ∙ h in
        let last : is_taken (cell_at w.table (record { thread = r.thread; sync = n })) ≡ true = k.held r.thread n seat held in
        ⊎_elim
        (λ (z : r.sync ≡ n). ap (λ m. is_taken (cell_at w.table (record { thread = r.thread; sync = m }))) z ∙ last)
        (λ (z : r.sync ≡ n → ⊥). taken_before_open w k r.thread n r.sync (taken_open (cell_at w.table (record { thread = r.thread; sync = n })) last) (omega (arith, z)))
        (cases_eq r.sync n)

-- a write to a row that is held leaves what nobody held blank
blank_after : (w : World) (x : Row) (p v : ℕ) → Kept w → is_row w.table x ≡ true → p < 34 → holder_at w x ≢ None → (r : Row) (q : ℕ) → is_row w.table r ≡ true → q < 34 → holder_at w r ≡ None → word_at (with_word w.table x p v) r q ≡ 0
blank_after w x p v k row below held r q in_t b none =
    let other : row_eq r x ≡ false = row_ne r x (λ e. held (ap (holder_at w) (sym e) ∙ none)) in
    word_other w.table x r p q v row in_t below b (inl other) ∙ k.blank r q in_t b none

-- ONE LEMMA FOR EACH KIND

-- a cell that joins nothing anew: open, claim, yield, take
module _ (w : World) (x : Row) (c : Cell) (k : Kept w)
    (row : is_row w.table x ≡ true)
    (range : IsCellInRange c)
    (same : joined_of c ≡ joined_of (cell_at w.table x))
    (takes : is_taken (cell_at w.table x) ≡ true → is_taken c ≡ true)
    (not_fresh : is_fresh c ≡ false)
    (unclaimed : (q : Row) → names (joined_of (cell_at w.table q)) x ≡ true → cell_at w.table x ≢ Claimed)
    (held_x : holder_at w x ≢ None)
    (turn : HasTurn w.table.threads w.table.rows (cell_at w.table) (marks_at w.table) x) where
  cells_plain : cell_at (with_cell w.table x c) ≡ put (cell_at w.table) x c
  cells_plain = cell_after_cell w.table x c k.sized row range

  fresh_plain : (r : Row) → is_fresh (cell_at w.table r) ≡ false → is_fresh (cell_at (with_cell w.table x c) r) ≡ is_fresh (cell_at w.table r)
  fresh_plain r f = ap (λ (g : Row → Cell). is_fresh (g r)) cells_plain ∙ ⊎_elim
      (λ (e : r ≡ x). ap (λ (y : Row). is_fresh (put (cell_at w.table) x c y)) e ∙ ap is_fresh (put_same (cell_at w.table) x c) ∙ not_fresh ∙ sym f)
      (λ (e : row_eq r x ≡ false). ap is_fresh (put_other (cell_at w.table) x c r e))
      (row_cases r x)

  taken_plain : (r : Row) → is_taken (cell_at w.table r) ≡ true → is_taken (cell_at (with_cell w.table x c) r) ≡ true
  taken_plain r h = ap (λ (g : Row → Cell). is_taken (g r)) cells_plain ∙ ⊎_elim
      (λ (e : r ≡ x). ap (λ (y : Row). is_taken (put (cell_at w.table) x c y)) e ∙ ap is_taken (put_same (cell_at w.table) x c) ∙ takes (ap (λ (y : Row). is_taken (cell_at w.table y)) (sym e) ∙ h))
      (λ (e : row_eq r x ≡ false). ap is_taken (put_other (cell_at w.table) x c r e) ∙ h)
      (row_cases r x)

  pub kept_plain : Kept (with_table w (with_cell w.table x c))
  unfolding with_cell
  kept_plain = record {
    sized = sized_after_word w.table x 0 (cell_word c) k.sized;
    few_threads = k.few_threads;
    few_rows = k.few_rows;
    room = k.room;
    formed = formed_after_word w.table x 0 (cell_word c) k.sized row (omega arith) (cell_is_formed c range) k.formed;
    linked =
        subst (λ (z : (Row → Cell) × Marks). Linked w.table.threads w.table.rows z.0 (offer_at (with_cell w.table x c)) z.1) (λ i. (sym cells_plain i, sym (marks_after_cell w.table x c row) i))
        (linked_plain w.table.threads w.table.rows (cell_at w.table) (offer_at w.table) (offer_at (with_cell w.table x c)) x c k.linked same takes unclaimed (λ f. turn)
        (λ r f. λ i n. offer_after_cell w.table x r n c row (fresh_plain r f) i));
    held = λ thread sync seat h.
        taken_plain (record { thread = thread; sync = sync })
        (k.held thread sync seat (sym (holder_same w (with_cell w.table x c) (record { thread = thread; sync = sync + 1 }) refl refl) ∙ h));
    bound = λ n b e h. k.bound n b (ap (λ (f : NackName → Option Binding). f n) (sym (binding_after_word w.table x 0 (cell_word c) row (omega arith))) ∙ e) (sym (holder_same w (with_cell w.table x c) (bound_row n b) refl refl) ∙ h);
    seated = k.seated;
    begun = λ r h e. k.begun r (λ n. h (holder_same w (with_cell w.table x c) r refl refl ∙ n)) (ap (λ (f : ℕ → Course). f r.thread) (sym (course_after_word w.table x 0 (cell_word c) row (omega arith))) ∙ e);
    begun_last = λ thread h e. k.begun_last thread h (ap (λ (f : ℕ → Course). f thread) (sym (course_after_word w.table x 0 (cell_word c) row (omega arith))) ∙ e);
    last_held = λ thread sync seat h e. taken_plain (record { thread = thread; sync = sync }) (k.last_held thread sync seat h e);
    seated_last = k.seated_last;
    blank = λ r p i b n.
        blank_after w x 0 (cell_word c) k row (omega arith) held_x r p (sym (is_row_after w.table x r 0 (cell_word c)) ∙ i) b (sym (holder_same w (with_cell w.table x c) r refl refl) ∙ n);
  }

-- a cell that is joined: join, seal and grant
module _ (w : World) (x : Row) (j : Joined) (k : Kept w)
    (row : is_row w.table x ≡ true)
    (range : IsJoinedInRange j)
    (open_x : is_fresh (cell_at w.table x) ≡ false)
    (not_joined : joined_of (cell_at w.table x) ≡ None)
    (linked : Linked w.table.threads w.table.rows (put (cell_at w.table) x (Synched j)) (offer_at w.table) (marks_at w.table)) where
  cells_joined : cell_at (with_cell w.table x (Synched j)) ≡ put (cell_at w.table) x (Synched j)
  cells_joined = cell_after_cell w.table x (Synched j) k.sized row range

  fresh_joined : (r : Row) → is_fresh (cell_at (with_cell w.table x (Synched j)) r) ≡ is_fresh (cell_at w.table r)
  fresh_joined r = ap (λ (g : Row → Cell). is_fresh (g r)) cells_joined ∙ ⊎_elim
      (λ (e : r ≡ x). ap (λ (y : Row). is_fresh (put (cell_at w.table) x (Synched j) y)) e ∙ ap is_fresh (put_same (cell_at w.table) x (Synched j)) ∙ sym open_x ∙ ap (λ (y : Row). is_fresh (cell_at w.table y)) (sym e))
      (λ (e : row_eq r x ≡ false). ap is_fresh (put_other (cell_at w.table) x (Synched j) r e))
      (row_cases r x)

  still_taken : (r : Row) → is_taken (cell_at w.table r) ≡ true → is_taken (cell_at (with_cell w.table x (Synched j)) r) ≡ true
  still_taken r h = ap (λ (g : Row → Cell). is_taken (g r)) cells_joined ∙ ⊎_elim
      (λ (e : r ≡ x). absurd (false≢true (sym (ap (λ (o : Option Joined). is_some o) (ap (λ (y : Row). joined_of (cell_at w.table y)) e ∙ not_joined)) ∙ taken_joined (cell_at w.table r) h)))
      (λ (e : row_eq r x ≡ false). ap is_taken (put_other (cell_at w.table) x (Synched j) r e) ∙ h)
      (row_cases r x)

  kept_joined : Kept (with_table w (with_cell w.table x (Synched j)))
  unfolding with_cell
  kept_joined = record {
    sized = sized_after_word w.table x 0 (cell_word (Synched j)) k.sized;
    few_threads = k.few_threads;
    few_rows = k.few_rows;
    room = k.room;
    formed = formed_after_word w.table x 0 (cell_word (Synched j)) k.sized row (omega arith) (cell_is_formed (Synched j) range) k.formed;
    linked = subst (λ (z : (Row → Cell) × (Row → ℕ → Option Offer) × Marks). Linked w.table.threads w.table.rows z.0 z.1 z.2)
        (λ i. (sym cells_joined i, λ r n. sym (offer_after_cell w.table x r n (Synched j) row (fresh_joined r)) i, sym (marks_after_cell w.table x (Synched j) row) i))
        linked;
    held = λ thread sync seat h.
        still_taken (record { thread = thread; sync = sync })
        (k.held thread sync seat (sym (holder_same w (with_cell w.table x (Synched j)) (record { thread = thread; sync = sync + 1 }) refl refl) ∙ h));
    bound = λ n b e h. k.bound n b (ap (λ (f : NackName → Option Binding). f n) (sym (binding_after_word w.table x 0 (cell_word (Synched j)) row (omega arith))) ∙ e) (sym (holder_same w (with_cell w.table x (Synched j)) (bound_row n b) refl refl) ∙ h);
    seated = k.seated;
    begun = λ r h e. k.begun r (λ n. h (holder_same w (with_cell w.table x (Synched j)) r refl refl ∙ n)) (ap (λ (f : ℕ → Course). f r.thread) (sym (course_after_word w.table x 0 (cell_word (Synched j)) row (omega arith))) ∙ e);
    begun_last = λ thread h e. k.begun_last thread h (ap (λ (f : ℕ → Course). f thread) (sym (course_after_word w.table x 0 (cell_word (Synched j)) row (omega arith))) ∙ e);
    last_held = λ thread sync seat h e. still_taken (record { thread = thread; sync = sync }) (k.last_held thread sync seat h e);
    seated_last = k.seated_last;
    blank = λ r p i b n.
        blank_after w x 0 (cell_word (Synched j)) k row (omega arith) (open_held w x k open_x) r p (sym (is_row_after w.table x r 0 (cell_word (Synched j))) ∙ i) b (sym (holder_same w (with_cell w.table x (Synched j)) r refl refl) ∙ n);
  }

kept_draft : (w : World) (x : Row) (p v seat : ℕ) → Kept w → holder_at w x ≡ Some seat → cell_at w.table x ≡ Fresh → 1 ≤ p → p ≤ 33 → is_word_for p v ≡ true → Kept (with_table w (with_word w.table x p v))
kept_draft w x p v seat k h f a b g =
    let row : is_row w.table x ≡ true = held_row w x seat h in
    let below : p < 34 = omega arith in
    let cells : (r : Row) → cell_at (with_word w.table x p v) r ≡ cell_at w.table r = λ r. cell_after_word w.table x r p v row a below in
    record {
      sized = sized_after_word w.table x p v k.sized;
      few_threads = k.few_threads;
      few_rows = k.few_rows;
      room = k.room;
      formed = formed_after_word w.table x p v k.sized row below g k.formed;
      linked = subst (λ (z : (Row → Cell) × (Row → ℕ → Option Offer) × Marks). Linked w.table.threads w.table.rows z.0 z.1 z.2)
          (λ i. (λ r. sym (cells r) i, λ r n. sym (offer_after_draft w.table x r n p v row a below (ap is_fresh f)) i, sym (marks_after_word w.table x p v row below) i))
          k.linked;
      held = λ thread sync s e.
          ap is_taken (cells (record { thread = thread; sync = sync }))
          ∙ k.held thread sync s (sym (holder_same w (with_word w.table x p v) (record { thread = thread; sync = sync + 1 }) refl refl) ∙ e);
      bound = λ n c e g. k.bound n c (ap (λ (q : NackName → Option Binding). q n) (sym (binding_after_word w.table x p v row below)) ∙ e) (sym (holder_same w (with_word w.table x p v) (bound_row n c) refl refl) ∙ g);
      seated = k.seated;
      begun = λ r h e. k.begun r (λ n. h (holder_same w (with_word w.table x p v) r refl refl ∙ n)) (ap (λ (f : ℕ → Course). f r.thread) (sym (course_after_word w.table x p v row below)) ∙ e);
      begun_last = λ thread h e. k.begun_last thread h (ap (λ (f : ℕ → Course). f thread) (sym (course_after_word w.table x p v row below)) ∙ e);
      last_held = λ thread sync seat h e. ap is_taken (cells (record { thread = thread; sync = sync })) ∙ k.last_held thread sync seat h e;
      seated_last = k.seated_last;
      blank = λ r q i d n.
          blank_after w x p v k row below (is_held w x seat h) r q (sym (is_row_after w.table x r p v) ∙ i) d (sym (holder_same w (with_word w.table x p v) r refl refl) ∙ n);
    }

-- a row that is neither claimed nor joined is not named
pub idle_unnamed : (w : World) (x : Row) → Kept w → cell_at w.table x ≢ Claimed → joined_of (cell_at w.table x) ≡ None → (q : Row) → names (joined_of (cell_at w.table q)) x ≡ false
idle_unnamed w x k = unnamed_idle w.table.threads w.table.rows (cell_at w.table) (offer_at w.table) x k.linked

-- a write that joins nothing to a row that is neither joined nor named
kept_unjoined : (w : World) (x : Row) (c : Cell) → Kept w → is_row w.table x ≡ true → IsCellInRange c → joined_of (cell_at w.table x) ≡ None → joined_of c ≡ None → is_fresh c ≡ false → ((q : Row) → names (joined_of (cell_at w.table q)) x ≡ false) → holder_at w x ≢ None → HasTurn w.table.threads w.table.rows (cell_at w.table) (marks_at w.table) x → Kept (with_table w (with_cell w.table x c))
kept_unjoined w x c k row range was is opened unnamed held turn =
    kept_plain w x c k row range (is ∙ sym was)
    (λ h. absurd (false≢true (sym (ap (λ (o : Option Joined). is_some o) was) ∙ taken_joined (cell_at w.table x) h)))
    opened
    (λ q h. absurd (false≢true (sym (unnamed q) ∙ h)))
    held turn

kept_open : (w : World) (x : Row) (seat : ℕ) → Kept w → holder_at w x ≡ Some seat → cell_at w.table x ≡ Fresh → IsAlive w x.thread → Kept (with_table w (with_cell w.table x Waiting))
kept_open w x seat k h f alive =
    kept_unjoined w x Waiting k (held_row w x seat h) tt (ap joined_of f) refl refl
    (idle_unnamed w x k (λ e. let bad : Fresh ≡ Claimed = sym f ∙ e in cc) (ap joined_of f))
    (is_held w x seat h)
    (turn_held w x seat k h alive)

kept_claim : (w : World) (x : Row) → Kept w → cell_at w.table x ≡ Waiting → Kept (with_table w (with_cell w.table x Claimed))
kept_claim w x k f =
    kept_unjoined w x Claimed k (row_of_open w.table x (ap is_fresh f)) tt (ap joined_of f) refl refl
    (idle_unnamed w x k (λ e. let bad : Waiting ≡ Claimed = sym f ∙ e in cc) (ap joined_of f))
    (open_held w x k (ap is_fresh f))
    (turn_open w x k (ap is_fresh f))

-- a row for which the search finds no namer is not named
pub unnamed_row : (w : World) (x : Row) → namer_at w x ≡ None → (q : Row) → names (joined_of (cell_at w.table q)) x ≡ false
unnamed_row w x h q = ⊎_elim
    (λ (e : is_row w.table q ≡ true).
    let in_t = row_inside w.table q e in
    no_namer w.table.threads w.table.rows (joined_at w.table) x q h in_t.0 in_t.1)
    (λ (e : is_row w.table q ≡ false). ap (λ (c : Cell). names (joined_of c) x) (cell_outside w.table q e))
    (cases_Bool (is_row w.table q))

kept_yield : (w : World) (x : Row) → Kept w → cell_at w.table x ≡ Claimed → namer_at w x ≡ None → Kept (with_table w (with_cell w.table x Waiting))
kept_yield w x k f n =
    kept_unjoined w x Waiting k (row_of_open w.table x (ap is_fresh f)) tt (ap joined_of f) refl refl (unnamed_row w x n) (open_held w x k (ap is_fresh f)) (turn_open w x k (ap is_fresh f))

row_in_range : (w : World) (r : Row) → Kept w → is_row w.table r ≡ true → IsRowInRange r
row_in_range w r k h =
    let in_t = row_inside w.table r h in
    let a = k.few_threads in
    let b = k.few_rows in
    record { thread = omega arith; sync = omega arith }

-- a last stamp has room in a word, and where a row is not joined so has the next stamp
pub small_last : (w : World) (r : Row) → Kept w → last_stamp (marks_at w.table) (joined_at w.table) r ≤ 4294967295
small_last w r k =
    let a = last_bounded w.table.threads w.table.rows (cell_at w.table) (offer_at w.table) r k.linked in
    let few = few_commits w.table.threads w.table.rows (joined_by (cell_at w.table)) (offer_at w.table) in
    let room = k.room in
    omega arith

-- a row that is open and not joined yet
pub record IsUnjoined (w : World) (x : Row) : Type 0 where
  pub opened : is_fresh (cell_at w.table x) ≡ false
  pub free : joined_at w.table x ≡ None

pub waits_unjoined : (w : World) (x : Row) → cell_at w.table x ≡ Waiting → IsUnjoined w x
waits_unjoined w x e = record { opened = ap is_fresh e; free = ap joined_of e }

fewer : (w : World) (x : Row) → Kept w → IsUnjoined w x → length (commits_of (all_rows w.table.threads w.table.rows) (joined_by (cell_at w.table)) (offer_at w.table)) < w.table.threads * w.table.rows
fewer w x k u =
    let inside = k.linked.inside x u.opened in
    fewer_commits w.table.threads w.table.rows (joined_by (cell_at w.table)) (offer_at w.table) x inside.0 inside.1 u.free

pub next_last : (w : World) (x r : Row) → Kept w → IsUnjoined w x → last_stamp (marks_at w.table) (joined_at w.table) r < 4294967295
next_last w x r k u =
    let a = last_bounded w.table.threads w.table.rows (cell_at w.table) (offer_at w.table) r k.linked in
    let few = fewer w x k u in
    let room = k.room in
    omega arith

next_stamp : (a b : ℕ) → a < 4294967295 → b < 4294967295 → 1 + max a b < 2 ^ 32
next_stamp a b h k = omega arith

-- the word of a join is well-formed
pub join_in_range : (w : World) (m : Row) (i : ℕ) (o : Row) (n : ℕ) → Kept w → IsUnjoined w o → is_row w.table m ≡ true → offers_meet (offer_at w.table m i) (offer_at w.table o n) ≡ true → IsJoinedInRange (joined_with w.table m i o n)
unfolding joined_with
join_in_range w m i o n k u h meets =
    let both = both_offers (offer_at w.table m i) (offer_at w.table o n) meets in
    record {
      own = offer_below w.table o n both.1 both.3;
      partner = (row_in_range w m k h, offer_below w.table m i both.0 both.2);
      stamp_low = low (last_stamp (marks_at w.table) (joined_at w.table) m) (last_stamp (marks_at w.table) (joined_at w.table) o);
      stamp_high = next_stamp _ _ (next_last w o m k u) (next_last w o o k u);
    }
  where
    low : (a b : ℕ) → 1 ≤ 1 + max a b
    low a b = omega arith

kept_join : (w : World) (m : Row) (i : ℕ) (o : Row) (n : ℕ) → Kept w → cell_at w.table m ≡ Claimed → namer_at w m ≡ None → cell_at w.table o ≡ Waiting → m.thread ≢ o.thread → offers_meet (offer_at w.table m i) (offer_at w.table o n) ≡ true → Kept (with_table w (with_cell w.table o (Synched (joined_with w.table m i o n))))
unfolding joined_with
kept_join w m i o n k mine none other apart meets =
    kept_joined w o (joined_with w.table m i o n) k (row_of_open w.table o (ap is_fresh other))
    (join_in_range w m i o n k (waits_unjoined w o other) (row_of_open w.table m (ap is_fresh mine)) meets)
    (ap is_fresh other)
    (ap joined_of other)
    (linked_join w.table.threads w.table.rows (cell_at w.table) (offer_at w.table) m i o n (joined_with w.table m i o n) k.linked mine (unnamed_row w m none) other apart meets refl)

-- a cause has room, too
pub next_cause : (w : World) (x : Row) (o : Option Offer) (s : ℕ) → Kept w → IsUnjoined w x → cause_of (joined_at w.table) (offer_at w.table) (marks_at w.table) o ≡ Some s → s < 4294967295
next_cause w x o s k u h =
    let a = cause_bounded w.table.threads w.table.rows (cell_at w.table) (offer_at w.table) o s k.linked h in
    let few = fewer w x k u in
    let room = k.room in
    omega arith

-- how a row is granted that has a cause
pub granted_is : (t : Table) (o : Row) (n s : ℕ) → cause_at t o n ≡ Some s → granted_by t o n ≡ record { own = n; partner = None; stamp = 1 + max (last_stamp (marks_at t) (joined_at t) o) s }
unfolding granted_by
granted_is t o n s e = λ i. record { own = n; partner = None; stamp = 1 + max (last_stamp (marks_at t) (joined_at t) o) (unwrap_or (e i) 0) }

-- the word of a grant is well-formed
pub grant_in_range : (w : World) (o : Row) (n s : ℕ) → Kept w → IsUnjoined w o → cause_at w.table o n ≡ Some s → IsJoinedInRange (granted_by w.table o n)
grant_in_range w o n s k u caused =
    let there = alone_there (offer_at w.table o n) (cause_alone (joined_at w.table) (offer_at w.table) (marks_at w.table) (offer_at w.table o n) s caused) in
    subst IsJoinedInRange (sym (granted_is w.table o n s caused)) (record {
      own = offer_below w.table o n there.0 there.1;
      partner = tt;
      stamp_low = low (last_stamp (marks_at w.table) (joined_at w.table) o) s;
      stamp_high = next_stamp _ _ (next_last w o o k u) (next_cause w o (offer_at w.table o n) s k u caused);
    })
  where
    low : (a b : ℕ) → 1 ≤ 1 + max a b
    low a b = omega arith

kept_grant : (w : World) (o : Row) (n : ℕ) → Kept w → cell_at w.table o ≡ Waiting → is_some (cause_at w.table o n) ≡ true → Kept (with_table w (with_cell w.table o (Synched (granted_by w.table o n))))
kept_grant w o n k waits there =
    let s = some_parts (cause_at w.table o n) there in
    kept_joined w o (granted_by w.table o n) k (row_of_open w.table o (ap is_fresh waits))
    (grant_in_range w o n s.0 k (waits_unjoined w o waits) s.1)
    (ap is_fresh waits)
    (ap joined_of waits)
    (linked_grant w.table.threads w.table.rows (cell_at w.table) (offer_at w.table) o n s.0 (granted_by w.table o n) k.linked waits s.1 (granted_is w.table o n s.0 s.1))

-- THE BIND

-- a nack of a row's thread is one of the table's
pub nack_of_thread : (t : Table) (r : Row) (k : ℕ) → is_row t r ≡ true → k < 64 → is_nack t (nack_of_row r k) ≡ true
unfolding is_nack
nack_of_thread t r k h b = and_from _ _ (lt-ltb r.thread t.threads (row_inside t r h).0) (lt-ltb k 64 b)

-- a row and a scope that a word has room for
pub bind_in_range : (w : World) (r : Row) (scope : ℕ) → Kept w → is_row w.table r ≡ true → scope < 4 → IsBindingInRange (record { sync = r.sync; scope = scope })
bind_in_range w r scope k h b =
    let inside = row_inside w.table r h in
    let few = k.few_rows in
    record { sync = omega arith; scope = b }

-- what a change of the marks leaves: rows, offers, and who holds what
kept_marked : (w : World) (t : Table) (k : Kept w) → t.threads ≡ w.table.threads → t.rows ≡ w.table.rows → t.opening ≡ w.table.opening → length t.words ≡ length w.table.words → IsFormed t → ((r : Row) → cell_at t r ≡ cell_at w.table r) → ((r : Row) (n : ℕ) → offer_at t r n ≡ offer_at w.table r n) → ((r : Row) (q : ℕ) → is_row w.table r ≡ true → q < 34 → word_at t r q ≡ word_at w.table r q) → Linked w.table.threads w.table.rows (cell_at w.table) (offer_at w.table) (marks_at t) → ((n : NackName) (b : Binding) → binding_at t n ≡ Some b → holder_at w (bound_row n b) ≢ None) → ((p : ℕ) → course_at w.table p ≢ Unstarted → course_at t p ≢ Unstarted) → Kept (with_table w t)
kept_marked w t k threads rows opening len formed cells offers words linked bound started =
    let same : (r : Row) → holder_at (with_table w t) r ≡ holder_at w r = λ r. holder_same w t r threads rows in
    let row : (r : Row) → is_row t r ≡ is_row w.table r = λ r. same_is_row t w.table r threads rows in
    record {
      sized = len ∙ k.sized ∙ (λ i. sym threads i * thread_len (sym rows i));
      few_threads = subst (λ n. n ≤ 64) (sym threads) k.few_threads;
      few_rows = subst (λ n. n ≤ 1024) (sym rows) k.few_rows;
      room = subst (λ n. n ≤ 4294967295) (λ i. sym opening i + sym threads i * sym rows i) k.room;
      formed = formed;
      linked =
          subst (λ (z : (ℕ × ℕ) × (Row → Cell) × (Row → ℕ → Option Offer)). Linked z.0.0 z.0.1 z.1 z.2 (marks_at t))
          (λ i. ((sym threads i, sym rows i), (λ r. sym (cells r) i), (λ r n. sym (offers r n) i)))
          linked;
      held = λ thread sync s e.
          ap is_taken (cells (record { thread = thread; sync = sync }))
          ∙ k.held thread sync s (sym (same (record { thread = thread; sync = sync + 1 })) ∙ e);
      bound = λ n c e h. bound n c e (sym (same (bound_row n c)) ∙ h);
      begun = λ r h e. started r.thread (k.begun r (λ n. h (same r ∙ n))) e;
      begun_last = λ thread h e. started thread (k.begun_last thread h) e;
      last_held = λ thread sync seat h e. ap is_taken (cells (record { thread = thread; sync = sync })) ∙ k.last_held thread sync seat h (sym rows ∙ e);
      seated = k.seated ∙ (λ i. sym threads i * sym rows i);
      seated_last = k.seated_last ∙ sym threads;
      blank = λ q p i a n.
          let here = sym (row q) ∙ i in
          words q p here a ∙ k.blank q p here a (sym (same q) ∙ n);
    }

kept_bound : (w : World) (m : NackName) (b : Binding) → Kept w → is_nack w.table m ≡ true → IsBindingInRange b → holder_at w (bound_row m b) ≢ None → nack_says w.table m ≡ Unbound → Kept (with_table w (with_nack w.table m b))
unfolding with_nack
kept_bound w m b kept nack range held free =
    let carries = carried_after_bind w.table m b kept.sized nack range free in
    let lives = course_after_bind w.table m b nack in
    kept_marked w (with_nack w.table m b) kept refl refl refl (length-set w.table.words _ _) (formed_after_bind w.table m b kept.sized nack range kept.formed)
    (λ r. cell_after_bind w.table m b r nack)
    (λ r n. offer_after_bind w.table m b r n nack)
    (λ r q here a. word_bound w.table m b r q nack here a)
    (subst (λ (f : ℕ → Course). Linked w.table.threads w.table.rows (cell_at w.table) (offer_at w.table) (record { bound = binding_at (with_nack w.table m b); carried = carried_at (with_nack w.table m b); course = f; opening = w.table.opening })) (sym lives)
    (linked_marks (marks_at w.table) (record { bound = binding_at (with_nack w.table m b); carried = carried_at (with_nack w.table m b); course = course_at w.table; opening = w.table.opening }) w.table.threads w.table.rows (cell_at w.table) (offer_at w.table) kept.linked
    (binding_kept w.table m b nack free)
    (bound_uncarried (with_nack w.table m b))
    (λ n. ap (λ (f : NackName → Option ℕ). f n) carries)
    refl
    (λ p start sync e. e) (λ r f. refl) kept.linked.lived kept.linked.ended kept.linked.starts))
    (λ n c e h. ⊎_elim
    (λ (old : binding_at w.table n ≡ Some c). kept.bound n c old h)
    (λ (new : (m ≡ n) × (b ≡ c)). held ((λ i. holder_at w (bound_row (new.0 i) (new.1 i))) ∙ h))
    (binding_was w.table m b kept.sized nack range n c e))
    (λ p n e. n (ap (λ (f : ℕ → Course). f p) (sym lives) ∙ e))

kept_bind : (w : World) (r : Row) (k scope seat : ℕ) → Kept w → holder_at w r ≡ Some seat → k < 64 → scope < 4 → nack_says w.table (nack_of_row r k) ≡ Unbound → Kept (with_table w (with_nack w.table (nack_of_row r k) (record { sync = r.sync; scope = scope })))
kept_bind w r k scope seat kept h b c free =
    let row = held_row w r seat h in
    let m : NackName = nack_of_row r k in
    let bound : Binding = record { sync = r.sync; scope = scope } in
    let nack = nack_of_thread w.table r k row b in
    let range = bind_in_range w r scope kept row c in
    kept_bound w m bound kept nack range (is_held w r seat h) free

-- THE TAKE

pub synched_is : (c : Cell) (j : Joined) → synched_of c ≡ Some j → c ≡ Synched j
synched_is Fresh j h = let bad : None ≡ Some j = h in cc
synched_is Waiting j h = let bad : None ≡ Some j = h in cc
synched_is Claimed j h = let bad : None ≡ Some j = h in cc
synched_is (Synched i) j h = ap Synched (some_inj i j h)
synched_is (Taken i) j h = let bad : None ≡ Some j = h in cc

-- a thread that lives at a row has started
lives_started : (c : Course) (g : ℕ) → LivesAt c g → c ≢ Unstarted
lives_started Unstarted g h e = h
lives_started (Running start) g h e = let bad : Running start ≡ Unstarted = e in cc
lives_started (Ended start sync) g h e = let bad : Ended start sync ≡ Unstarted = e in cc

-- who holds rows does not hang on who stands behind the last ones
pub holder_lasted : (w : World) (lasts : List (Option ℕ)) (r : Row) → holder_at (with_lasts w lasts) r ≡ holder_at w r
unfolding holder_at
holder_lasted w lasts r = refl

-- the row behind a taken row is handed over
kept_handed : (w : World) (seat : Seat) (x : Row) → Kept w → is_taken (cell_at w.table x) ≡ true → Kept (with_holders w (handed w.table w.holders seat x))
kept_handed w seat x k taken = record {
  sized = k.sized;
  few_threads = k.few_threads;
  few_rows = k.few_rows;
  room = k.room;
  formed = k.formed;
  linked = k.linked;
  held = λ thread sync s h. ⊎_elim
      (λ (e : record { thread = thread; sync = sync + 1 } ≡ next_row x).
      let a : thread ≡ x.thread = ap (λ (r : Row). r.thread) e in
      let b : sync + 1 ≡ x.sync + 1 = ap (λ (r : Row). r.sync) e in
      let c : sync ≡ x.sync = omega arith in
      (λ i. is_taken (cell_at w.table (record { thread = a i; sync = c i }))) ∙ taken)
      (λ (e : row_eq (record { thread = thread; sync = sync + 1 }) (next_row x) ≡ false). k.held thread sync s (sym (hand_other w seat x _ e) ∙ h))
      (row_cases (record { thread = thread; sync = sync + 1 }) (next_row x));
  bound = λ n b e h. k.bound n b e (⊎_elim
      (λ (q : bound_row n b ≡ next_row x). ⊎_elim
      (λ (i : is_row w.table (next_row x) ≡ true).
      let bad : Some seat.0 ≡ None = sym (hand_next w seat x k.seated i) ∙ ap (holder_at (with_holders w (handed w.table w.holders seat x))) (sym q) ∙ h in
      cc)
      (λ (i : is_row w.table (next_row x) ≡ false). ap (holder_at w) q ∙ held_outside w (next_row x) i)
      (cases_Bool (is_row w.table (next_row x))))
      (λ (q : row_eq (bound_row n b) (next_row x) ≡ false). sym (hand_other w seat x (bound_row n b) q) ∙ h)
      (row_cases (bound_row n b) (next_row x)));
  begun = λ r h e. ⊎_elim
      (λ (q : r ≡ next_row x). lives_started (course_at w.table x.thread) x.sync (k.linked.lived x (taken_open (cell_at w.table x) taken)) (ap (λ (y : Row). course_at w.table y.thread) (sym q) ∙ e))
      (λ (q : row_eq r (next_row x) ≡ false). k.begun r (λ n. h (hand_other w seat x r q ∙ n)) e)
      (row_cases r (next_row x));
  begun_last = k.begun_last;
  last_held = k.last_held;
  seated = length_handed w.table w.holders seat x ∙ k.seated;
  seated_last = k.seated_last;
  blank = λ r p i b n. ⊎_elim
      (λ (e : r ≡ next_row x).
      let there : holder_at (with_holders w (handed w.table w.holders seat x)) (next_row x) ≡ Some seat.0 = hand_next w seat x k.seated (ap (is_row w.table) (sym e) ∙ i) in
      let bad : Some seat.0 ≡ None = sym there ∙ ap (holder_at (with_holders w (handed w.table w.holders seat x))) (sym e) ∙ n in
      cc)
      (λ (e : row_eq r (next_row x) ≡ false). k.blank r p i b (sym (hand_other w seat x r e) ∙ n))
      (row_cases r (next_row x));
}

-- and where it was the last one, the place behind it is
last_other : (t : Table) (lasts : List (Option ℕ)) (seat : Seat) (x : Row) (p : ℕ) → (p ≡ x.thread → ⊥) → get_or (handed_last t lasts seat x) p None ≡ get_or lasts p None
unfolding handed_last
last_other t lasts seat x p n = ⊎_elim
    (λ (e : eqb (x.sync + 1) t.rows ≡ true). ap (λ b. get_or (cond b (set lasts x.thread (Some seat.0)) lasts) p None) e ∙ get_or-set_other lasts x.thread p (Some seat.0) None n)
    (λ (e : eqb (x.sync + 1) t.rows ≡ false). ap (λ b. get_or (cond b (set lasts x.thread (Some seat.0)) lasts) p None) e)
    (cases_Bool (eqb (x.sync + 1) t.rows))

-- the place behind the row's thread is held as before, but behind its last row
pub last_kept_at : (t : Table) (lasts : List (Option ℕ)) (seat : Seat) (x : Row) (p : ℕ) → (p ≡ x.thread → x.sync + 1 ≡ t.rows → ⊥) → get_or (handed_last t lasts seat x) p None ≡ get_or lasts p None
unfolding handed_last
last_kept_at t lasts seat x p n = ⊎_elim
    (λ (e : p ≡ x.thread). ap (λ b. get_or (cond b (set lasts x.thread (Some seat.0)) lasts) p None) (ne_eqb (x.sync + 1) t.rows (n e)))
    (λ (e : p ≡ x.thread → ⊥). last_other t lasts seat x p e)
    (cases_eq p x.thread)

pub handed_last_same : (t u : Table) (lasts : List (Option ℕ)) (seat : Seat) (x : Row) → u.rows ≡ t.rows → handed_last u lasts seat x ≡ handed_last t lasts seat x
unfolding handed_last
handed_last_same t u lasts seat x e = λ i. cond (eqb (x.sync + 1) (e i)) (set lasts x.thread (Some seat.0)) lasts

length_lasts : (t : Table) (lasts : List (Option ℕ)) (seat : Seat) (x : Row) → length (handed_last t lasts seat x) ≡ length lasts
unfolding handed_last
length_lasts t lasts seat x = ⊎_elim
    (λ (e : eqb (x.sync + 1) t.rows ≡ true). ap (λ b. length (cond b (set lasts x.thread (Some seat.0)) lasts)) e ∙ length-set lasts x.thread (Some seat.0))
    (λ (e : eqb (x.sync + 1) t.rows ≡ false). ap (λ b. length (cond b (set lasts x.thread (Some seat.0)) lasts)) e)
    (cases_Bool (eqb (x.sync + 1) t.rows))

kept_lasted : (w : World) (seat : Seat) (x : Row) → Kept w → is_taken (cell_at w.table x) ≡ true → Kept (with_lasts w (handed_last w.table w.lasts seat x))
kept_lasted w seat x k taken = record {
  sized = k.sized;
  few_threads = k.few_threads;
  few_rows = k.few_rows;
  room = k.room;
  formed = k.formed;
  linked = k.linked;
  held = λ thread sync s h. k.held thread sync s (sym (holder_lasted w (handed_last w.table w.lasts seat x) _) ∙ h);
  bound = λ n b e h. k.bound n b e (sym (holder_lasted w (handed_last w.table w.lasts seat x) _) ∙ h);
  begun = λ r h e. k.begun r (λ n. h (holder_lasted w (handed_last w.table w.lasts seat x) r ∙ n)) e;
  begun_last = λ p h e. ⊎_elim
      (λ (same : p ≡ x.thread). lives_started (course_at w.table x.thread) x.sync (k.linked.lived x (taken_open (cell_at w.table x) taken)) (ap (course_at w.table) (sym same) ∙ e))
      (λ (other : p ≡ x.thread → ⊥). k.begun_last p (λ n. h (last_other w.table w.lasts seat x p other ∙ n)) e)
      (cases_eq p x.thread);
  last_held = λ thread sync s h e. ⊎_elim
      (λ (same : (thread ≡ x.thread) × (x.sync + 1 ≡ w.table.rows)).
      let at : sync ≡ x.sync = (let a = same.1 in omega (arith, e)) in
      (λ i. is_taken (cell_at w.table (record { thread = same.0 i; sync = at i }))) ∙ taken)
      (λ (other : thread ≡ x.thread → x.sync + 1 ≡ w.table.rows → ⊥). k.last_held thread sync s (sym (last_kept_at w.table w.lasts seat x thread other) ∙ h) e)
      (both_or_not (cases_eq thread x.thread) (cases_eq (x.sync + 1) w.table.rows));
  seated = k.seated;
  seated_last = length_lasts w.table w.lasts seat x ∙ k.seated_last;
  blank = λ r p i b n. k.blank r p i b (sym (holder_lasted w (handed_last w.table w.lasts seat x) r) ∙ n);
}
  where
    both_or_not : {A B : Type 0} → A ⊎ (A → ⊥) → B ⊎ (B → ⊥) → (A × B) ⊎ (A → B → ⊥)
    both_or_not (inl a) (inl b) = inl (a, b)
    both_or_not (inl a) (inr n) = inr (λ a b. n b)
    both_or_not (inr n) b = inr (λ a b. n a)

-- a synched row becomes Taken
pub kept_taken : (w : World) (x : Row) (j : Joined) → Kept w → cell_at w.table x ≡ Synched j → Kept (with_table w (with_cell w.table x (Taken j)))
kept_taken w x j k is =
    let open_x : is_fresh (cell_at w.table x) ≡ false = ap is_fresh is in
    kept_plain w x (Taken j) k (row_of_open w.table x open_x) (joined_ranged w.table x j (ap joined_of is)) (sym (ap joined_of is)) (λ h. refl) refl
    (λ q h e. let bad : Synched j ≡ Claimed = sym is ∙ e in cc)
    (open_held w x k open_x)
    (turn_open w x k open_x)

pub cells_taken : (w : World) (x : Row) (j : Joined) → Kept w → cell_at w.table x ≡ Synched j → cell_at (with_cell w.table x (Taken j)) ≡ put (cell_at w.table) x (Taken j)
cells_taken w x j k is = cell_after_cell w.table x (Taken j) k.sized (row_of_open w.table x (ap is_fresh is)) (joined_ranged w.table x j (ap joined_of is))

abbrev pub took : World → Seat → Row → Table → World
took w seat x t = with_lasts (with_holders (with_table w t) (handed w.table w.holders seat x)) (handed_last w.table w.lasts seat x)

pub kept_took : (w : World) (seat : Seat) (x : Row) (j : Joined) → Kept w → cell_at w.table x ≡ Synched j → Kept (took w seat x (with_cell w.table x (Taken j)))
unfolding with_cell
kept_took w seat x j k is =
    let t : Table = with_cell w.table x (Taken j) in
    let taken : is_taken (cell_at t x) ≡ true = ap is_taken (ap (λ (f : Row → Cell). f x) (cells_taken w x j k is) ∙ put_same (cell_at w.table) x (Taken j)) in
    subst (λ (z : List (Option ℕ) × List (Option ℕ)). Kept (with_lasts (with_holders (with_table w t) z.0) z.1))
    (λ i. (handed_same w.table t w.holders seat x refl refl i, handed_last_same w.table t w.lasts seat x refl i))
    (kept_lasted (with_holders (with_table w t) (handed t w.holders seat x)) seat x (kept_handed (with_table w t) seat x (kept_taken w x j k is) taken) taken)

-- a world whose table has that cell and whose holders are those
pub took_world : (w v : World) (seat : Seat) (x : Row) (j : Joined) (t : Table) → v.table ≡ t → t ≡ with_cell w.table x (Taken j) → v.seats ≡ w.seats → v.holders ≡ handed t w.holders seat x → v.lasts ≡ handed_last t w.lasts seat x → v ≡ took w seat x (with_cell w.table x (Taken j))
unfolding with_cell
took_world w v seat x j t a b c d e =
    let hands : v.holders ≡ handed w.table w.holders seat x =
    d ∙ ap (λ (u : Table). handed u w.holders seat x) b ∙ handed_same w.table (with_cell w.table x (Taken j)) w.holders seat x refl refl in
    let ends : v.lasts ≡ handed_last w.table w.lasts seat x =
    e ∙ ap (λ (u : Table). handed_last u w.lasts seat x) b ∙ handed_last_same w.table (with_cell w.table x (Taken j)) w.lasts seat x refl in
    λ i. record { table = (a ∙ b) i; seats = c i; holders = hands i; lasts = ends i }

kept_take : (w : World) (seat : Seat) (x : Row) → Kept w → is_some (synched_of (cell_at w.table x)) ≡ true → Kept (after_step w seat (Take x))
kept_take w seat x k h =
    let j = some_parts (synched_of (cell_at w.table x)) h in
    subst (λ (o : Option Joined). Kept (took w seat x (with_take w.table x o))) (sym j.1)
    (kept_took w seat x j.0 k (synched_is (cell_at w.table x) j.0 j.1))

-- THE START AND THE FINISH

-- a life that is written, where rows and ends stay lawful by it
kept_lived : (w : World) (p : ℕ) (c : Course) (k : Kept w) → p < w.table.threads → IsCourseInRange c → c ≢ Unstarted → (HasEnded (course_at w.table p) → ⊥) → ((r : Row) → is_fresh (cell_at w.table r) ≡ false → r.thread ≡ p → (start_of c ≡ start_of (course_at w.table p)) × LivesAt c r.sync) → ((start sync : ℕ) → c ≡ Ended start (sync + 1) → is_taken (cell_at w.table (record { thread = p; sync = sync })) ≡ true) → start_of c ≤ w.table.opening + length (commits_of (all_rows w.table.threads w.table.rows) (joined_by (cell_at w.table)) (offer_at w.table)) → Kept (with_table w (with_course w.table p c))
kept_lived w p c k below range goes alive opens ends bounded =
    let here : course_at (with_course w.table p c) p ≡ c = course_lived w.table p c k.sized below range in
    let there : (q : ℕ) → (q ≡ p → ⊥) → course_at (with_course w.table p c) q ≡ course_at w.table q = λ q n. course_lived_other w.table p q c n in
    let binds : binding_at (with_course w.table p c) ≡ binding_at w.table = binding_after_life w.table p c in
    kept_marked w (with_course w.table p c) k (threads_lived w.table p c) (rows_lived w.table p c) (opening_lived w.table p c) (length_lived w.table p c)
    (formed_after_life w.table p c k.sized below range k.formed)
    (cell_after_life w.table p c)
    (offer_after_life w.table p c)
    (word_lived w.table p c)
    (linked_marks (marks_at w.table) (marks_at (with_course w.table p c)) w.table.threads w.table.rows (cell_at w.table) (offer_at w.table) k.linked
    (λ n b e. ap (λ (f : NackName → Option Binding). f n) binds ∙ e)
    (bound_uncarried (with_course w.table p c))
    (λ n. ap (λ (f : NackName → Option ℕ). f n) (carried_after_life w.table p c))
    (opening_lived w.table p c)
    (λ q start sync e. ⊎_elim
    (λ (same : q ≡ p). absurd (alive (subst HasEnded (sym e ∙ ap (course_at w.table) same) tt)))
    (λ (other : q ≡ p → ⊥). there q other ∙ e)
    (cases_eq q p))
    (λ r f. ⊎_elim
    (λ (same : r.thread ≡ p). ap start_of (ap (course_at (with_course w.table p c)) same ∙ here) ∙ (opens r f same).0 ∙ ap (λ q. start_of (course_at w.table q)) (sym same))
    (λ (other : r.thread ≡ p → ⊥). ap start_of (there r.thread other))
    (cases_eq r.thread p))
    (λ r f. ⊎_elim
    (λ (same : r.thread ≡ p). subst (λ (x : Course). LivesAt x r.sync) (sym (ap (course_at (with_course w.table p c)) same ∙ here)) (opens r f same).1)
    (λ (other : r.thread ≡ p → ⊥). subst (λ (x : Course). LivesAt x r.sync) (sym (there r.thread other)) (k.linked.lived r f))
    (cases_eq r.thread p))
    (λ q start sync e. ⊎_elim
    (λ (same : q ≡ p). ap (λ n. is_taken (cell_at w.table (record { thread = n; sync = sync }))) same ∙ ends start sync (sym here ∙ ap (course_at (with_course w.table p c)) (sym same) ∙ e))
    (λ (other : q ≡ p → ⊥). k.linked.ended q start sync (sym (there q other) ∙ e))
    (cases_eq q p))
    (λ q. ⊎_elim
    (λ (same : q ≡ p). subst (λ n. n ≤ w.table.opening + length (commits_of (all_rows w.table.threads w.table.rows) (joined_by (cell_at w.table)) (offer_at w.table))) (sym (ap start_of (ap (course_at (with_course w.table p c)) same ∙ here))) bounded)
    (λ (other : q ≡ p → ⊥). subst (λ n. n ≤ w.table.opening + length (commits_of (all_rows w.table.threads w.table.rows) (joined_by (cell_at w.table)) (offer_at w.table))) (sym (ap start_of (there q other))) (k.linked.starts q))
    (cases_eq q p)))
    (λ n b e. k.bound n b (ap (λ (f : NackName → Option Binding). f n) (sym binds) ∙ e))
    (λ q n e. ⊎_elim
    (λ (same : q ≡ p). goes (sym here ∙ ap (course_at (with_course w.table p c)) (sym same) ∙ e))
    (λ (other : q ≡ p → ⊥). n (sym (there q other) ∙ e))
    (cases_eq q p))

-- the first row of a thread that has started is held
pub begun_other : (w : World) (seat : Seat) (p : ℕ) (r : Row) → row_eq r (first_row p) ≡ false → p < w.table.threads → holder_at (with_holders w (begun w.table w.holders seat p)) r ≡ holder_at w r
unfolding begun
begun_other w seat p r n below = ⊎_elim
    (λ (k : is_row w.table r ≡ true).
    held_inside (with_holders w (begun w.table w.holders seat p)) r k
    ∙ get_or-set_other w.holders (number_of w.table.rows (first_row p)) (number_of w.table.rows r) (Some seat.0) None (λ d. row_eq-false r (first_row p) n (same_number w.table r (first_row p) k (row_from w.table (first_row p) below (let i = (row_inside w.table r k).1 in omega arith)) d))
    ∙ sym (held_inside w r k))
    (λ (k : is_row w.table r ≡ false). held_outside (with_holders w (begun w.table w.holders seat p)) r k ∙ sym (held_outside w r k))
    (cases_Bool (is_row w.table r))

length_begun : (t : Table) (holders : List (Option ℕ)) (seat : Seat) (p : ℕ) → length (begun t holders seat p) ≡ length holders
unfolding begun
length_begun t holders seat p = length-set holders _ (Some seat.0)

pub begun_held : (w : World) (seat : Seat) (p : ℕ) → length w.holders ≡ w.table.threads * w.table.rows → is_row w.table (first_row p) ≡ true → holder_at (with_holders w (begun w.table w.holders seat p)) (first_row p) ≡ Some seat.0
unfolding begun
begun_held w seat p sized e =
    let inside = row_inside w.table (first_row p) e in
    let below = block_inside p w.table.threads 0 w.table.rows inside.0 inside.1 in
    held_inside (with_holders w (begun w.table w.holders seat p)) (first_row p) e
    ∙ get_or-set_same w.holders (number_of w.table.rows (first_row p)) (Some seat.0) None (omega arith)

kept_begun : (w : World) (seat : Seat) (p : ℕ) → Kept w → p < w.table.threads → course_at w.table p ≢ Unstarted → Kept (with_holders w (begun w.table w.holders seat p))
kept_begun w seat p k below goes = record {
  sized = k.sized;
  few_threads = k.few_threads;
  few_rows = k.few_rows;
  room = k.room;
  formed = k.formed;
  linked = k.linked;
  held = λ thread sync s h. k.held thread sync s (sym (begun_other w seat p _ (row_ne _ (first_row p) (λ e. let z : sync + 1 ≡ 0 = ap (λ (r : Row). r.sync) e in absurd (omega arith))) below) ∙ h);
  bound = λ n b e h. k.bound n b e (still_none (bound_row n b) h);
  begun = λ r h e. ⊎_elim
      (λ (q : r ≡ first_row p). goes (ap (λ (y : Row). course_at w.table y.thread) (sym q) ∙ e))
      (λ (q : row_eq r (first_row p) ≡ false). k.begun r (λ n. h (begun_other w seat p r q below ∙ n)) e)
      (row_cases r (first_row p));
  begun_last = k.begun_last;
  last_held = k.last_held;
  seated = length_begun w.table w.holders seat p ∙ k.seated;
  seated_last = k.seated_last;
  blank = λ r q i b n. k.blank r q i b (still_none r n);
}
  where
    still_none : (r : Row) → holder_at (with_holders w (begun w.table w.holders seat p)) r ≡ None → holder_at w r ≡ None
    still_none r h = ⊎_elim
        (λ (q : r ≡ first_row p). ⊎_elim
        (λ (i : is_row w.table r ≡ true).
        let bad : Some seat.0 ≡ None = sym (begun_held w seat p k.seated (ap (is_row w.table) (sym q) ∙ i)) ∙ ap (holder_at (with_holders w (begun w.table w.holders seat p))) (sym q) ∙ h in
        cc)
        (λ (i : is_row w.table r ≡ false). held_outside w r i)
        (cases_Bool (is_row w.table r)))
        (λ (q : row_eq r (first_row p) ≡ false). sym (begun_other w seat p r q below) ∙ h)
        (row_cases r (first_row p))

-- a course's stamps fit its word
start_in_range : (c : Course) → IsCourseInRange c → start_of c < 2 ^ 32
start_in_range Unstarted h = omega arith
start_in_range (Running start) h = h
start_in_range (Ended start sync) h = h.0

pub stamp_in_range : (w : World) (x : Row) → Kept w → IsCourseInRange (Running (last_stamp (marks_at w.table) (joined_at w.table) x))
stamp_in_range w x k = small_in_range (last_stamp (marks_at w.table) (joined_at w.table) x) (small_last w x k)
  where
    small_in_range : (n : ℕ) → n ≤ 4294967295 → IsCourseInRange (Running n)
    small_in_range n h = let fits : n < 2 ^ 32 = omega arith in fits

kept_started : (w : World) (seat : Seat) (x : Row) (p : ℕ) → Kept w → p < w.table.threads → course_at w.table p ≡ Unstarted → Kept (after_step w seat (Start x p))
kept_started w seat x p k below waiting =
    let stamp : ℕ = last_stamp (marks_at w.table) (joined_at w.table) x in
    let range = stamp_in_range w x k in
    let lived = kept_lived w p (Running stamp) k below range (λ e. let bad : Running stamp ≡ Unstarted = e in cc)
    (λ h. subst HasEnded waiting h)
    (λ r f same. absurd (subst (λ (c : Course). LivesAt c r.sync) (ap (course_at w.table) same ∙ waiting) (k.linked.lived r f)))
    (λ start sync e. let bad : Running stamp ≡ Ended start (sync + 1) = e in cc)
    (last_bounded w.table.threads w.table.rows (cell_at w.table) (offer_at w.table) x k.linked) in
    subst (λ (hs : List (Option ℕ)). Kept (with_holders (with_table w (with_course w.table p (Running stamp))) hs)) (begun_rows w.table (with_course w.table p (Running stamp)) w.holders seat p (rows_lived w.table p (Running stamp)))
    (kept_begun (with_table w (with_course w.table p (Running stamp))) seat p lived (subst (λ n. p < n) (sym (threads_lived w.table p (Running stamp))) below)
    (λ e. let bad : Running stamp ≡ Unstarted = sym (course_lived w.table p (Running stamp) k.sized below range) ∙ e in cc))

-- where a seat stands at a place of a thread, all rows before it were taken, and none from it on is opened
pub stands_behind : (w : World) (seat : Seat) (x : Row) → Kept w → StandsAt w seat x → (n : ℕ) → x.sync ≡ n + 1 → is_taken (cell_at w.table (record { thread = x.thread; sync = n })) ≡ true
stands_behind w seat x k (inl here) n e = k.held x.thread n seat.0 (ap (λ m. holder_at w (record { thread = x.thread; sync = m })) (sym e) ∙ here.0)
stands_behind w seat x k (inr here) n e = k.last_held x.thread n seat.0 here.2 (sym here.1 ∙ e)

pub stands_before : (w : World) (seat : Seat) (x : Row) → Kept w → StandsAt w seat x → (r : Row) → is_fresh (cell_at w.table r) ≡ false → r.thread ≡ x.thread → r.sync < x.sync
stands_before w seat x k (inl here) r f same = ⊎_elim
    (λ (e : r.sync ≡ x.sync). absurd (true≢false (sym (ap is_fresh (ap (cell_at w.table) (same_row r x same e) ∙ here.1)) ∙ f)))
    (λ (c : (r.sync < x.sync) ⊎ (x.sync < r.sync)). ⊎_elim
    (λ (less : r.sync < x.sync). less)
    (λ (more : x.sync < r.sync).
    let taken = taken_before w k x r same more (inl f) in
    absurd (true≢false (sym (ap is_fresh here.1) ∙ taken_open (cell_at w.table x) taken)))
    c)
    (cases_order r.sync x.sync)
stands_before w seat x k (inr here) r f same = let inside = (k.linked.inside r f).1 in let e = here.1 in omega arith

pub stands_inside : (w : World) (seat : Seat) (x : Row) → StandsAt w seat x → (x.thread < w.table.threads) × (x.sync ≤ w.table.rows)
stands_inside w seat x (inl here) = let inside = row_inside w.table x (held_row w x seat.0 here.0) in (inside.0, (let less = inside.1 in omega arith))
stands_inside w seat x (inr here) = (here.0, (let e = here.1 in omega arith))

-- a place behind a thread's last row
pub stands_last : (w : World) (seat : Seat) (x : Row) → w.table.rows ≤ x.sync → StandsAt w seat x → (x.thread < w.table.threads) × (x.sync ≡ w.table.rows) × (last_holder w x.thread ≡ Some seat.0)
stands_last w seat x b (inl here) = let inside = row_inside w.table x (held_row w x seat.0 here.0) in absurd (omega (arith, inside.1))
stands_last w seat x b (inr here) = here

pub end_in_range : (w : World) (seat : Seat) (x : Row) → Kept w → StandsAt w seat x → IsCourseInRange (ended_at (course_at w.table x.thread) x.sync)
end_in_range w seat x k stands =
    let fits = (stands_inside w seat x stands).1 in
    let few = k.few_rows in
    (start_in_range (course_at w.table x.thread) (course_ranged w.table x.thread), omega arith)

kept_finish : (w : World) (seat : Seat) (x : Row) → Kept w → StandsAt w seat x → IsAlive w x.thread → Kept (after_step w seat (Finish x))
kept_finish w seat x k stands alive =
    let old : Course = course_at w.table x.thread in
    kept_lived w x.thread (ended_at old x.sync) k (stands_inside w seat x stands).0 (end_in_range w seat x k stands)
    (λ e. let bad : Ended (start_of old) x.sync ≡ Unstarted = e in cc)
    alive
    (λ r f same. (refl, stands_before w seat x k stands r f same))
    (λ start sync e. stands_behind w seat x k stands sync (ended_inj _ _ _ _ e))
    (k.linked.starts x.thread)
  where
    ended_sync : Course → ℕ
    ended_sync Unstarted = 0
    ended_sync (Running start) = 0
    ended_sync (Ended start sync) = sync

    ended_inj : (s t m n : ℕ) → Ended s m ≡ Ended t n → m ≡ n
    ended_inj s t m n e = ap ended_sync e

-- THE SEAL: what the row that names a pending row says

pub record IsSealing (t : Table) (x q : Row) : Type 0 where
  pub way : Joined
  pub offer : ℕ
  pub is : joined_of (cell_at t q) ≡ Some way
  pub partner : way.partner ≡ Some (x, offer)

pub sealing : (t : Table) (x q : Row) → names (joined_of (cell_at t q)) x ≡ true → IsSealing t x q
sealing t x q h =
    let n = naming (joined_of (cell_at t q)) x h in
    record {
      way = n.way;
      offer = n.place.1;
      is = n.is;
      partner = n.partner ∙ (λ i. Some (n.row i, n.place.1));
    }

pub sealed_is : (t : Table) (x q : Row) (o : Option Row) (s : IsSealing t x q) → o ≡ Some q → sealed_by t o ≡ Some (mirrored q s.way s.offer)
sealed_is t x q o s e = ap (sealed_by t) e ∙ ap (side_of q) s.is ∙ ap (other_side q s.way) s.partner

pub seal_in_range : (w : World) (x q : Row) (s : IsSealing w.table x q) → Kept w → IsJoinedInRange (mirrored q s.way s.offer)
seal_in_range w x q s k =
    let side = k.linked.sides q s.way (x, s.offer) s.is s.partner in
    let both = both_offers (offer_at w.table q s.way.own) (offer_at w.table x s.offer) side.meets in
    let b = k.linked.bounded q s.way s.is in
    let stamp = side.stamp in
    let few = few_commits w.table.threads w.table.rows (joined_by (cell_at w.table)) (offer_at w.table) in
    let room = k.room in
    record {
      own = offer_below w.table x s.offer both.1 both.3;
      partner = (row_in_range w q k (row_of_open w.table q (fresh_not_joined (cell_at w.table q) s.way s.is)), offer_below w.table q s.way.own both.0 both.2);
      stamp_low = low _ _ _ stamp;
      stamp_high = high s.way.stamp (omega arith);
    }
  where
    low : (s a b : ℕ) → s ≡ 1 + max a b → 1 ≤ s
    low s a b e = omega arith

    high : (s : ℕ) → s ≤ 4294967295 → s < 2 ^ 32
    high s h = omega arith

kept_sealed : (w : World) (x q : Row) (s : IsSealing w.table x q) → Kept w → cell_at w.table x ≡ Claimed → Kept (with_table w (with_cell w.table x (Synched (mirrored q s.way s.offer))))
kept_sealed w x q s k f =
    kept_joined w x (mirrored q s.way s.offer) k (row_of_open w.table x (ap is_fresh f)) (seal_in_range w x q s k) (ap is_fresh f) (ap joined_of f)
    (linked_seal w.table.threads w.table.rows (cell_at w.table) (offer_at w.table) x q s.way (mirrored q s.way s.offer) s.offer k.linked f s.is s.partner refl)

kept_seal : (w : World) (x : Row) → Kept w → cell_at w.table x ≡ Claimed → is_some (namer_at w x) ≡ true → Kept (with_table w (with_seal w.table x (sealed_by w.table (namer_at w x))))
kept_seal w x k f h =
    let q = some_parts (namer_at w x) h in
    let s = sealing w.table x q.0 (namer_names (all_rows w.table.threads w.table.rows) (joined_at w.table) x q.0 q.1) in
    subst (λ (o : Option Joined). Kept (with_table w (with_seal w.table x o))) (sym (sealed_is w.table x q.0 (namer_at w x) s q.1)) (kept_sealed w x q.0 s k f)

pub kept_condition : (w : World) (seat : Seat) (step : Step) → Kept w → Condition w seat step → Kept (after_step w seat step)
kept_condition w seat (Draft row place value) k a = kept_draft w row place value seat.0 k a.0 a.1 a.3 a.4 a.5
kept_condition w seat (Open row) k a = kept_open w row seat.0 k a.0 a.1 a.2
kept_condition w seat (Look row) k a = k
kept_condition w seat (Read row place) k a = k
kept_condition w seat (Claim row) k a = kept_claim w row k a.1
kept_condition w seat (Yield row) k a = kept_yield w row k a.1 a.2
kept_condition w seat (Join mine own other partner) k a = kept_join w mine own other partner k a.1 a.2 a.3 a.4 a.5
kept_condition w seat (Seal row) k a = kept_seal w row k a.1 a.2
kept_condition w seat (Grant row n) k a = kept_grant w row n k a.0 a.1
kept_condition w seat (Take row) k a = kept_take w seat row k a
kept_condition w seat (Bind n row scope) k a = kept_bind w row n scope seat.0 k a.0 a.3 a.4 a.5
kept_condition w seat (Start row thread) k a = kept_started w seat row thread k a.2 a.4
kept_condition w seat (Finish row) k a = kept_finish w seat row k a.0 a.1

pub kept_step : (w : World) (seat : Seat) (step : Step) → Kept w → Allowed w seat step → Kept (after_step w seat step)
kept_step w seat step k a = kept_condition w seat step k a.1

pub kept_schedule : (w v : World) (steps : List (Seat × Step)) → Kept w → Plays w steps v → Kept v
kept_schedule w v [] k p = subst Kept (sym p) k
kept_schedule w v (s ∷ ss) k p = kept_schedule (after_step w s.0 s.1) v ss (kept_step w s.0 s.1 k p.0) p.1
