-- What passes have seen stays true at every step, whoever makes it.
use Rattle.std.proofs.Common.{◌≡◌, ℕ, ◌<◌, ◌≤◌, Bool, true, false, cond, eqb, ◌&&◌, List, [], ◌∷◌, sym, refl, ap, ◌∙◌, subst, ◌⊎◌, inl, inr, ⊎_elim, arith, Option, Some, None, is_some}
use Rattle.std.proofs.lemmas.Bool.{and_parts, eqb-true, false≢true}
use Rattle.protocol_values.specs.declared.NackName.{NackName}
use Rattle.protocol_values.specs.declared.NackWord.{NackWord}
use Rattle.protocol_values.specs.declared.NackWord.TheVariants.{Bound, Carried, Unbound}
use Rattle.protocol_values.specs.declared.Binding.{Binding}
use Rattle.protocol_values.specs.declared.Course.{Course}
use Rattle.protocol_values.specs.declared.Course.TheVariants.{Unstarted, Running, Ended}
use Rattle.protocol_values.specs.declared.Row.{Row}
use Rattle.protocol_values.specs.declared.Joined.{Joined}
use Rattle.protocol_values.specs.declared.Cell.{Cell}
use Rattle.protocol_values.specs.declared.Cell.TheVariants.{Fresh, Waiting, Claimed, Synched, Taken}
use Rattle.protocol_values.specs.Words.{cell_word, IsCellInRange}
use Rattle.cell_table.specs.declared.view.View.{View}
use Rattle.cell_table.specs.declared.view.Stage.{Stage}
use Rattle.cell_table.specs.declared.view.Stage.TheVariants.{Resting, Claims, Joins, Aside, Left}
use Rattle.protocol_ledger.specs.Tables.{course_at, Table, bound_row, is_row, row_eq, cell_at, is_fresh, joined_at, names, nack_says, word_at, binding_at, bound_by, carried_at, carried_by, is_taken}
use Rattle.protocol_values.specs.Values.{joined_of}
use Rattle.protocol_ledger.specs.Worlds.{World, holder_at, with_word, with_cell, with_table, first_row}
use Rattle.protocol_ledger.specs.Kept.{Kept}
use Rattle.protocol_ledger.proofs.Keeping.{held_row}
use Rattle.protocol_ledger.proofs.RowLemmas.{row_cases, row_eq-false, row_eq-true, row_ne, put, put_same, put_other}
use Rattle.protocol_ledger.proofs.Places.{word_other, is_row_after}
use Rattle.protocol_ledger.proofs.Readings.{cell_after_cell, cell_after_word, row_of_open, binding_after_cell, binding_after_word, bound_is, carried_after_cell, carried_after_word, carried_is, course_after_cell, course_after_word}
use Rattle.cell_table.specs.declared.view.Seen.{Seen}
use Rattle.cell_table.specs.Sight.{Has, IsCounted, see_begun, see_bound, see_carried, see_course, see_word, without}
use Rattle.protocol_ledger.specs.Acting.{EndsAt, HasStart}
use Rattle.cell_table.specs.Views.{IsClaimer, SeesEnd, Staged, Knows, behind_last, at_stage, turned, saw, saw_course, saw_nack, read_word, drafted_word}

-- what is left after a word of (r, p) is gone, and what was there before
left_one : (r : Row) (p : ℕ) (d : Row × ℕ × ℕ) (ds : List (Row × ℕ × ℕ)) (q : Row) (o x : ℕ) (b : Bool) → (row_eq d.0 r && eqb d.1 p) ≡ b → ¬ ((q ≡ r) × (o ≡ p)) → (Has ds (q, o, x) → Has (without r p ds) (q, o, x))
    → Has (d ∷ ds) (q, o, x) → Has (cond b (without r p ds) (d ∷ without r p ds)) (q, o, x)
left_one r p d ds q o x true e else_where rest (inl f) =
    let a = and_parts (row_eq d.0 r) (eqb d.1 p) e in
    absurd (else_where (ap (λ (z : Row × ℕ × ℕ). z.0) (sym f) ∙ row_eq-true d.0 r a.0, ap (λ (z : Row × ℕ × ℕ). z.1) (sym f) ∙ eqb-true d.1 p a.1))
left_one r p d ds q o x true e else_where rest (inr h) = rest h
left_one r p d ds q o x false e else_where rest (inl f) = inl f
left_one r p d ds q o x false e else_where rest (inr h) = inr (rest h)

pub left : (r : Row) (p : ℕ) (ds : List (Row × ℕ × ℕ)) (q : Row) (o x : ℕ) → ¬ ((q ≡ r) × (o ≡ p)) → Has ds (q, o, x) → Has (without r p ds) (q, o, x)
left r p [] q o x else_where h = absurd h
left r p (d ∷ ds) q o x else_where h = left_one r p d ds q o x (row_eq d.0 r && eqb d.1 p) refl else_where (λ i. left r p ds q o x else_where i) h

holder_kept : (w : World) (t : Table) (r : Row) → t.threads ≡ w.table.threads → t.rows ≡ w.table.rows → holder_at (with_table w t) r ≡ holder_at w r
holder_kept = Rattle.protocol_ledger.proofs.Keeping.holder_same

-- A CELL IS WRITTEN: the row x, which was not joined, is open from then on
module _ (w : World) (x : Row) (c : Cell) (owner : Row → ℕ) (k : Kept w)
    (row : is_row w.table x ≡ true)
    (range : IsCellInRange c)
    (open_c : is_fresh c ≡ false)
    (was : joined_of (cell_at w.table x) ≡ None)
    (untaken : is_taken (cell_at w.table x) ≡ false) where
  cells : cell_at (with_cell w.table x c) ≡ put (cell_at w.table) x c
  cells = cell_after_cell w.table x c k.sized row range

  same_cell : (r : Row) → row_eq r x ≡ false → cell_at (with_cell w.table x c) r ≡ cell_at w.table r
  same_cell r e = ap (λ (f : Row → Cell). f r) cells ∙ put_other (cell_at w.table) x c r e

  at_x : cell_at (with_cell w.table x c) x ≡ c
  at_x = ap (λ (f : Row → Cell). f x) cells ∙ put_same (cell_at w.table) x c

  stays_open : (r : Row) → is_fresh (cell_at w.table r) ≡ false → is_fresh (cell_at (with_cell w.table x c) r) ≡ false
  stays_open r h = ⊎_elim
      (λ (e : r ≡ x). ap (λ (y : Row). is_fresh (cell_at (with_cell w.table x c) y)) e ∙ ap is_fresh at_x ∙ open_c)
      (λ (e : row_eq r x ≡ false). ap is_fresh (same_cell r e) ∙ h)
      (row_cases r x)

  stays_joined : (r : Row) (j : Joined) → joined_at w.table r ≡ Some j → joined_at (with_cell w.table x c) r ≡ Some j
  stays_joined r j h = ⊎_elim
      (λ (e : r ≡ x). let bad : None ≡ Some j = sym was ∙ ap (λ (y : Row). joined_at w.table y) (sym e) ∙ h in cc)
      (λ (e : row_eq r x ≡ false). ap joined_of (same_cell r e) ∙ h)
      (row_cases r x)

  stays_taken : (r : Row) → is_taken (cell_at w.table r) ≡ true → is_taken (cell_at (with_cell w.table x c) r) ≡ true
  stays_taken r h = ⊎_elim
      (λ (e : r ≡ x). absurd (false≢true (sym untaken ∙ ap (λ (y : Row). is_taken (cell_at w.table y)) (sym e) ∙ h)))
      (λ (e : row_eq r x ≡ false). ap is_taken (same_cell r e) ∙ h)
      (row_cases r x)

  -- the nacks stay
  stays_bound : (n : NackName) → binding_at (with_cell w.table x c) n ≡ binding_at w.table n
  stays_bound n = ap (λ (f : NackName → Option Binding). f n) (binding_after_cell w.table x c row)

  stays_carried : (n : NackName) → carried_at (with_cell w.table x c) n ≡ carried_at w.table n
  stays_carried n = ap (λ (f : NackName → Option ℕ). f n) (carried_after_cell w.table x c row)

  courses_stay : (p : ℕ) → course_at (with_cell w.table x c) p ≡ course_at w.table p
  courses_stay p = ap (λ (f : ℕ → Course). f p) (course_after_cell w.table x c row)

  ends_stay : (s : Seen) (t : ℕ) → SeesEnd w s t → SeesEnd (with_table w (with_cell w.table x c)) s t
  ends_stay s t sees g e = sees g (subst (λ (k : Course). EndsAt k g) (courses_stay t) e)

  -- the words behind the cells stay
  stays_word : (r : Row) (p : ℕ) → is_row w.table r ≡ true → 1 ≤ p → p < 34 → word_at (with_cell w.table x c) r p ≡ word_at w.table r p
  unfolding with_cell
  stays_word r p h a b = word_other w.table x r 0 p (cell_word c) row h (omega arith) b (inr (λ (z : p ≡ 0). absurd (omega arith)))

  -- the number of offers of a row that someone holds
  stays_count : (r : Row) (seat : ℕ) → holder_at w r ≡ Some seat → word_at w.table r 1 ≡ 0 → word_at (with_cell w.table x c) r 1 ≡ 0
  stays_count r seat h z = stays_word r 1 (held_row w r seat h) (omega arith) (omega arith) ∙ z

  -- the world after it has the size and the holders of the world before
  pub size_kept : ((with_cell w.table x c).threads ≡ w.table.threads) × ((with_cell w.table x c).rows ≡ w.table.rows)
  unfolding with_cell
  size_kept = (refl, refl)

  still_row : (r : Row) → is_row (with_cell w.table x c) r ≡ is_row w.table r
  unfolding with_cell
  still_row r = is_row_after w.table x r 0 (cell_word c)

  -- a row that is claimed before and not x is claimed after
  stays_claimed : (m : Row) → cell_at w.table m ≡ Claimed → row_eq m x ≡ false → cell_at (with_cell w.table x c) m ≡ Claimed
  stays_claimed m h e = same_cell m e ∙ h

  module _ {M : Type 0} where
    module _ (id : ℕ) (v : View M) (knows : Knows w owner id v)
        -- where the pass owns x, its open row is joined by another
        (joined_by_other : owner x ≡ id → (cell_at w.table x ≡ Waiting) × (is_some (joined_of c) ≡ true))
        -- no claimed row of the pass is named by the new cell
        (unnamed : (m : Row) → owner m ≡ id → cell_at w.table m ≡ Claimed → names (joined_of c) m ≡ false) where
      claimed_other : (m : Row) → owner m ≡ id → cell_at w.table m ≡ Claimed → row_eq m x ≡ false
      claimed_other m o h = row_ne m x (λ e.
          let waits = (joined_by_other (ap owner (sym e) ∙ o)).0 in
          let bad : Waiting ≡ Claimed = sym waits ∙ ap (cell_at w.table) (sym e) ∙ h in
          cc)

      staged_kept : (stage : Stage) → Staged w owner id stage → Staged (with_table w (with_cell w.table x c)) owner id stage
      staged_kept Resting h = tt
      staged_kept Aside h = tt
      staged_kept Left h = tt
      staged_kept (Claims m) h = (
        h.0,
        stays_claimed m h.1 (claimed_other m h.0 h.1),
        λ q. ⊎_elim
            (λ (e : q ≡ x). ap (λ (y : Row). names (joined_at (with_cell w.table x c) y) m) e ∙ ap (λ (d : Cell). names (joined_of d) m) at_x ∙ unnamed m h.0 h.1)
            (λ (e : row_eq q x ≡ false). ap (λ (d : Cell). names (joined_of d) m) (same_cell q e) ∙ h.2 q)
            (row_cases q x),
      )
      staged_kept (Joins m o j) h = (h.0, stays_claimed m h.1 (claimed_other m h.0 h.1), stays_joined o j h.2, h.3)

      pub others_cell : Knows (with_table w (with_cell w.table x c)) owner id v
      others_cell = record {
        threads = knows.threads ∙ sym size_kept.0;
        rows = knows.rows ∙ sym size_kept.1;
        passes = knows.passes;
        seat = knows.seat;
        undealt = λ t h at_once d.
            let u = knows.undealt t (subst (λ (n : ℕ). t < n) size_kept.0 h) at_once d in (
              u.0,
              holder_kept w (with_cell w.table x c) (first_row t) size_kept.0 size_kept.1 ∙ u.1,
              λ n. ⊎_elim
                  (λ (y : first_row t ≡ x).
                  let waits = (joined_by_other (ap owner (sym y) ∙ u.0)).0 in
                  let bad : Fresh ≡ Waiting = sym (u.2 n) ∙ ap (cell_at w.table) y ∙ waits in
                  cc)
                  (λ (y : row_eq (first_row t) x ≡ false). same_cell (first_row t) y ∙ u.2 n)
                  (row_cases (first_row t) x),
              (λ n. stays_count (first_row t) _ u.1 (u.3 n)),
              (λ n b e. u.4 n b (sym (stays_bound n) ∙ e)),
              λ n. ends_stay v.seen t (u.5 n),
            );
        mine = λ r h. let m = knows.mine r h in (m.0, holder_kept w (with_cell w.table x c) r size_kept.0 size_kept.1 ∙ m.1);
        calm = λ r h e. knows.calm r h (⊎_elim
            (λ (y : r ≡ x).
            let some = (joined_by_other (ap owner (sym y) ∙ (knows.mine r h).0)).1 in
            let none : joined_of c ≡ None = ap joined_of (sym at_x ∙ ap (cell_at (with_cell w.table x c)) (sym y) ∙ e) in
            absurd (false≢true (sym (ap (λ (o : Option Joined). is_some o) none) ∙ some)))
            (λ (y : row_eq r x ≡ false). sym (same_cell r y) ∙ e)
            (row_cases r x));
        staged = staged_kept v.stage knows.staged;
        fresh = λ r h n. ⊎_elim
            (λ (y : r ≡ x).
            let waits = (joined_by_other (ap owner (sym y) ∙ (knows.mine r h).0)).0 in
            let bad : Fresh ≡ Waiting = sym (knows.fresh r h n) ∙ ap (cell_at w.table) y ∙ waits in
            cc)
            (λ (y : row_eq r x ≡ false). same_cell r y ∙ knows.fresh r h n)
            (row_cases r x);
        drafted = λ r p d h. let k = knows.drafted r p d h in (k.0, k.1, k.2, holder_kept w (with_cell w.table x c) r size_kept.0 size_kept.1 ∙ k.3, stays_word r p (held_row w r _ k.3) k.2 k.1 ∙ k.4);
        opened = λ r h. stays_open r (knows.opened r h);
        read = λ r p d h. let k = knows.read r p d h in (stays_open r k.0, k.1, k.2, stays_word r p (row_of_open w.table r k.0) k.2 k.1 ∙ k.3);
        joined = λ r j h. stays_joined r j (knows.joined r j h);
        taken = λ r h. stays_taken r (knows.taken r h);
        bound = λ n b h. stays_bound n ∙ knows.bound n b h;
        carried = λ n stamp h. stays_carried n ∙ knows.carried n stamp h;
        settled = λ n stamp h. knows.settled n stamp (sym (stays_carried n) ∙ h);
        started = λ t s h. subst (λ (k : Course). HasStart k s) (sym (courses_stay t)) (knows.started t s h);
        ended = λ t g h. subst (λ (k : Course). EndsAt k g) (sym (courses_stay t)) (knows.ended t g h);
        lasts = λ t h. let k = knows.lasts t h in (ap (λ (n : ℕ). owner (behind_last n t)) size_kept.1 ∙ k.0, k.1, ends_stay v.seen t k.2);
        lively = λ r h n. ends_stay v.seen r.thread (knows.lively r h n);
        binds = λ n b e. knows.binds n b (sym (stays_bound n) ∙ e);
      }

  -- the cells after it
  pub cell_now : cell_at (with_cell w.table x c) x ≡ c
  cell_now = at_x

  pub cell_else : (r : Row) → row_eq r x ≡ false → cell_at (with_cell w.table x c) r ≡ cell_at w.table r
  cell_else = same_cell

  module _ {M : Type 0} where
    -- the pass that writes the cell
    pub own_cell : (id : ℕ) (v : View M) (stage : Stage) → Knows w owner id v
        → Staged (with_table w (with_cell w.table x c)) owner id stage
        → ((r : Row) → Has v.seen.held r → cell_at (with_cell w.table x c) r ≡ Claimed → IsClaimer stage r)
        → Knows (with_table w (with_cell w.table x c)) owner id (turned stage x v)
    own_cell id v stage knows staged calm = record {
      threads = knows.threads ∙ sym size_kept.0;
      rows = knows.rows ∙ sym size_kept.1;
      passes = knows.passes;
      seat = knows.seat;
      undealt = λ t h at_once d.
          let u = knows.undealt t (subst (λ (n : ℕ). t < n) size_kept.0 h) at_once d in
          (u.0, holder_kept w (with_cell w.table x c) (first_row t) size_kept.0 size_kept.1 ∙ u.1, λ n. same_cell (first_row t) (row_ne (first_row t) x (λ e. n (inl (sym e)))) ∙ u.2 (λ o. n (inr o)), (λ n. stays_count (first_row t) _ u.1 (u.3 n)), (λ n b e. u.4 n b (sym (stays_bound n) ∙ e)), λ n. ends_stay v.seen t (u.5 (λ o. n (inr o))));
      mine = λ r h. let m = knows.mine r h in (m.0, holder_kept w (with_cell w.table x c) r size_kept.0 size_kept.1 ∙ m.1);
      calm = calm;
      staged = staged;
      fresh = λ r h n. same_cell r (row_ne r x (λ e. n (inl (sym e)))) ∙ knows.fresh r h (λ o. n (inr o));
      drafted = λ r p d h. let k = knows.drafted r p d h in (k.0, k.1, k.2, holder_kept w (with_cell w.table x c) r size_kept.0 size_kept.1 ∙ k.3, stays_word r p (held_row w r _ k.3) k.2 k.1 ∙ k.4);
      opened = λ r h. opened_now r h;
      read = λ r p d h. let k = knows.read r p d h in (stays_open r k.0, k.1, k.2, stays_word r p (row_of_open w.table r k.0) k.2 k.1 ∙ k.3);
      joined = λ r j h. stays_joined r j (knows.joined r j h);
      taken = λ r h. stays_taken r (knows.taken r h);
      bound = λ n b h. stays_bound n ∙ knows.bound n b h;
      carried = λ n stamp h. stays_carried n ∙ knows.carried n stamp h;
      settled = λ n stamp h. knows.settled n stamp (sym (stays_carried n) ∙ h);
      started = λ t s h. subst (λ (k : Course). HasStart k s) (sym (courses_stay t)) (knows.started t s h);
      ended = λ t g h. subst (λ (k : Course). EndsAt k g) (sym (courses_stay t)) (knows.ended t g h);
      lasts = λ t h. let k = knows.lasts t h in (ap (λ (n : ℕ). owner (behind_last n t)) size_kept.1 ∙ k.0, k.1, ends_stay v.seen t k.2);
      lively = λ r h n. ends_stay v.seen r.thread (knows.lively r h (λ o. n (inr o)));
      binds = λ n b e. knows.binds n b (sym (stays_bound n) ∙ e);
    }
      where
        opened_now : (r : Row) → Has (x ∷ v.seen.opened) r → is_fresh (cell_at (with_cell w.table x c) r) ≡ false
        opened_now r (inl e) = ap (λ (y : Row). is_fresh (cell_at (with_cell w.table x c) y)) (sym e) ∙ ap is_fresh at_x ∙ open_c
        opened_now r (inr h) = stays_open r (knows.opened r h)

module _ {M : Type 0} where
  -- LEARNING, with no change of the table

  -- what is seen besides is true, and nothing is forgotten
  learn : (w : World) (owner : Row → ℕ) (id : ℕ) (v : View M) (s : Seen) → Knows w owner id v → s.held ≡ v.seen.held → s.drafts ≡ v.seen.drafts → s.lasts ≡ v.seen.lasts
      → ((q : Row) → Has v.seen.opened q → Has s.opened q)
      → ((n : NackName) (b : Binding) → Has v.seen.bound (n, b) → Has s.bound (n, b))
      → ((t g : ℕ) → Has v.seen.ended (t, g) → Has s.ended (t, g))
      → ((q : Row) → Has s.opened q → is_fresh (cell_at w.table q) ≡ false)
      → ((q : Row) (p x : ℕ) → Has s.words (q, p, x) → (is_fresh (cell_at w.table q) ≡ false) × (p < 34) × (1 ≤ p) × (word_at w.table q p ≡ x))
      → ((q : Row) (j : Joined) → Has s.joined (q, j) → joined_at w.table q ≡ Some j)
      → ((q : Row) → Has s.taken q → is_taken (cell_at w.table q) ≡ true)
      → ((n : NackName) (b : Binding) → Has s.bound (n, b) → binding_at w.table n ≡ Some b)
      → ((n : NackName) (stamp : ℕ) → Has s.carried (n, stamp) → carried_at w.table n ≡ Some stamp)
      → ((t stamp : ℕ) → Has s.started (t, stamp) → HasStart (course_at w.table t) stamp)
      → ((t g : ℕ) → Has s.ended (t, g) → EndsAt (course_at w.table t) g)
      → Knows w owner id (at_stage v.stage s v)
  learn w owner id v s k same_held same_drafts same_lasts opened_more bound_more ended_more opened_true read_true joined_true taken_true bound_true carried_true started_true ended_true = record {
    threads = k.threads;
    rows = k.rows;
    passes = k.passes;
    seat = k.seat;
    undealt = λ t h at_once d. let u = k.undealt t h at_once d in (u.0, u.1, (λ n. u.2 (λ o. n (opened_more _ o))), (λ n. u.3 (λ l. n (counted (first_row t) l))), (λ m b e same. bound_more m b (u.4 m b e same)), λ n. more_ends t (u.5 (λ o. n (opened_more _ o))));
    mine = λ r h. k.mine r (held_before r h);
    calm = λ r h e. k.calm r (held_before r h) e;
    staged = k.staged;
    fresh = λ r h n. k.fresh r (held_before r h) (λ o. n (opened_more r o));
    drafted = λ r p x h. k.drafted r p x (subst (λ (ds : List (Row × ℕ × ℕ)). Has ds (r, p, x)) same_drafts h);
    opened = opened_true;
    read = read_true;
    joined = joined_true;
    taken = taken_true;
    bound = bound_true;
    carried = carried_true;
    settled = k.settled;
    started = started_true;
    ended = ended_true;
    lasts = λ t h. let a = k.lasts t (subst (λ (ts : List ℕ). Has ts t) same_lasts h) in (a.0, a.1, more_ends t a.2);
    lively = λ r h n. more_ends r.thread (k.lively r (held_before r h) (λ o. n (opened_more r o)));
    binds = λ n b e h. bound_more n b (k.binds n b e (held_before (bound_row n b) h));
  }
    where
      more_ends : (t : ℕ) → SeesEnd w v.seen t → SeesEnd w s t
      more_ends t sees g e = ended_more t g (sees g e)

      held_before : (r : Row) → Has s.held r → Has v.seen.held r
      held_before r h = subst (λ (rs : List Row). Has rs r) same_held h

      counted : (r : Row) → IsCounted v.seen r → IsCounted s r
      counted r l = (l.0, subst (λ (ds : List (Row × ℕ × ℕ)). Has ds (r, 1, l.0)) (sym same_drafts) l.1)

  -- the row is open, and how it was committed and taken may be new
  know_more : (w : World) (owner : Row → ℕ) (id : ℕ) (v : View M) (r : Row) (js : List (Row × Joined)) (ts : List Row) → Knows w owner id v → is_fresh (cell_at w.table r) ≡ false
      → ((q : Row) (j : Joined) → Has js (q, j) → joined_at w.table q ≡ Some j)
      → ((q : Row) → Has ts q → is_taken (cell_at w.table q) ≡ true)
      → Knows w owner id (at_stage v.stage (record v.seen { opened = r ∷ v.seen.opened; joined = js; taken = ts }) v)
  know_more w owner id v r js ts k f js_true ts_true =
      learn w owner id v (record v.seen { opened = r ∷ v.seen.opened; joined = js; taken = ts }) k refl refl refl (λ q o. inr o) (λ n b h. h) (λ t g h. h)
      (λ q h. ⊎_elim (λ (e : r ≡ q). ap (λ (y : Row). is_fresh (cell_at w.table y)) (sym e) ∙ f) (λ (o : Has v.seen.opened q). k.opened q o) h)
      k.read js_true ts_true k.bound k.carried k.started k.ended

  -- what stood for a thread at first was fetched
  pub knows_begun : (w : World) (owner : Row → ℕ) (id : ℕ) (v : View M) (r : Row) → Knows w owner id v → Knows w owner id (at_stage v.stage (see_begun r v.seen) v)
  knows_begun w owner id v r k = learn w owner id v (see_begun r v.seen) k refl refl refl (λ q o. o) (λ n b h. h) (λ t g h. h) k.opened k.read k.joined k.taken k.bound k.carried k.started k.ended

  pub learn_cell : (w : World) (owner : Row → ℕ) (id : ℕ) (v : View M) (r : Row) (c : Cell) → Knows w owner id v → cell_at w.table r ≡ c → Knows w owner id (saw r c v)
  learn_cell w owner id v r Fresh k e = k
  learn_cell w owner id v r Waiting k e = know_more w owner id v r v.seen.joined v.seen.taken k (ap is_fresh e) k.joined k.taken
  learn_cell w owner id v r Claimed k e = know_more w owner id v r v.seen.joined v.seen.taken k (ap is_fresh e) k.joined k.taken
  learn_cell w owner id v r (Synched j) k e =
      know_more w owner id v r ((r, j) ∷ v.seen.joined) v.seen.taken k (ap is_fresh e) (λ q i h. seen q i h) k.taken
    where
      seen : (q : Row) (i : Joined) → Has ((r, j) ∷ v.seen.joined) (q, i) → joined_at w.table q ≡ Some i
      seen q i (inl p) = ap (λ (z : Row × Joined). joined_at w.table z.0) (sym p) ∙ ap joined_of e ∙ ap (λ (z : Row × Joined). Some z.1) p
      seen q i (inr h) = k.joined q i h
  learn_cell w owner id v r (Taken j) k e =
      know_more w owner id v r ((r, j) ∷ v.seen.joined) (r ∷ v.seen.taken) k (ap is_fresh e) (λ q i h. seen q i h) (λ q h. took q h)
    where
      seen : (q : Row) (i : Joined) → Has ((r, j) ∷ v.seen.joined) (q, i) → joined_at w.table q ≡ Some i
      seen q i (inl p) = ap (λ (z : Row × Joined). joined_at w.table z.0) (sym p) ∙ ap joined_of e ∙ ap (λ (z : Row × Joined). Some z.1) p
      seen q i (inr h) = k.joined q i h

      took : (q : Row) → Has (r ∷ v.seen.taken) q → is_taken (cell_at w.table q) ≡ true
      took q (inl p) = ap (λ (y : Row). is_taken (cell_at w.table y)) (sym p) ∙ ap is_taken e
      took q (inr h) = k.taken q h

  pub learn_word : (w : World) (owner : Row → ℕ) (id : ℕ) (v : View M) (r : Row) (p x : ℕ) → Knows w owner id v → is_fresh (cell_at w.table r) ≡ false → 1 ≤ p → p < 34 → word_at w.table r p ≡ x → Knows w owner id (read_word r p x v)
  learn_word w owner id v r p x k f a b e = learn w owner id v (see_word r p x v.seen) k refl refl refl (λ q o. o) (λ n c h. h) (λ t g h. h) k.opened (λ q o y h. seen q o y h) k.joined k.taken k.bound k.carried k.started k.ended
    where
      seen : (q : Row) (o y : ℕ) → Has ((r, p, x) ∷ v.seen.words) (q, o, y) → (is_fresh (cell_at w.table q) ≡ false) × (o < 34) × (1 ≤ o) × (word_at w.table q o ≡ y)
      seen q o y (inl i) = subst (λ (z : Row × ℕ × ℕ). (is_fresh (cell_at w.table z.0) ≡ false) × (z.1 < 34) × (1 ≤ z.1) × (word_at w.table z.0 z.1 ≡ z.2)) i (f, b, a, e)
      seen q o y (inr h) = k.read q o y h

  pub learn_course : (w : World) (owner : Row → ℕ) (id : ℕ) (v : View M) (p : ℕ) (c : Course) → Knows w owner id v → course_at w.table p ≡ c → Knows w owner id (saw_course p c v)
  learn_course w owner id v p Unstarted k e = k
  learn_course w owner id v p (Running start) k e =
      learn w owner id v (see_course p (Running start) v.seen) k refl refl refl (λ q o. o) (λ n b h. h) (λ t g h. h) k.opened k.read k.joined k.taken k.bound k.carried (λ t s h. begun t s h) k.ended
    where
      begun : (t s : ℕ) → Has ((p, start) ∷ v.seen.started) (t, s) → HasStart (course_at w.table t) s
      begun t s (inl i) = subst (λ (z : ℕ × ℕ). HasStart (course_at w.table z.0) z.1) i (subst (λ (c : Course). HasStart c start) (sym e) refl)
      begun t s (inr h) = k.started t s h
  learn_course w owner id v p (Ended start sync) k e =
      learn w owner id v (see_course p (Ended start sync) v.seen) k refl refl refl (λ q o. o) (λ n b h. h) (λ t g h. inr h) k.opened k.read k.joined k.taken k.bound k.carried (λ t s h. begun t s h) (λ t g h. over t g h)
    where
      begun : (t s : ℕ) → Has ((p, start) ∷ v.seen.started) (t, s) → HasStart (course_at w.table t) s
      begun t s (inl i) = subst (λ (z : ℕ × ℕ). HasStart (course_at w.table z.0) z.1) i (subst (λ (c : Course). HasStart c start) (sym e) refl)
      begun t s (inr h) = k.started t s h

      over : (t g : ℕ) → Has ((p, sync) ∷ v.seen.ended) (t, g) → EndsAt (course_at w.table t) g
      over t g (inl i) = subst (λ (z : ℕ × ℕ). EndsAt (course_at w.table z.0) z.1) i (subst (λ (c : Course). EndsAt c sync) (sym e) refl)
      over t g (inr h) = k.ended t g h

  pub learn_nack : (w : World) (owner : Row → ℕ) (id : ℕ) (v : View M) (n : NackName) (says : NackWord) → Knows w owner id v → nack_says w.table n ≡ says → Knows w owner id (saw_nack n says v)
  learn_nack w owner id v n Unbound k e = k
  learn_nack w owner id v n (Bound b) k e = learn w owner id v (see_bound n b v.seen) k refl refl refl (λ q o. o) (λ m c h. inr h) (λ t g h. h) k.opened k.read k.joined k.taken (λ m c h. seen m c h) k.carried k.started k.ended
    where
      seen : (m : NackName) (c : Binding) → Has ((n, b) ∷ v.seen.bound) (m, c) → binding_at w.table m ≡ Some c
      seen m c (inl p) = ap (λ (z : NackName × Binding). binding_at w.table z.0) (sym p) ∙ bound_is w.table n ∙ ap bound_by e ∙ ap (λ (z : NackName × Binding). Some z.1) p
      seen m c (inr h) = k.bound m c h
  learn_nack w owner id v n (Carried stamp) k e = learn w owner id v (see_carried n stamp v.seen) k refl refl refl (λ q o. o) (λ m c h. h) (λ t g h. h) k.opened k.read k.joined k.taken k.bound (λ m s h. seen m s h) k.started k.ended
    where
      seen : (m : NackName) (s : ℕ) → Has ((n, stamp) ∷ v.seen.carried) (m, s) → carried_at w.table m ≡ Some s
      seen m s (inl p) = ap (λ (z : NackName × ℕ). carried_at w.table z.0) (sym p) ∙ carried_is w.table n ∙ ap carried_by e ∙ ap (λ (z : NackName × ℕ). Some z.1) p
      seen m s (inr h) = k.carried m s h

-- A WORD OF A FRESH ROW IS DRAFTED by its owner
module _ (w : World) (x : Row) (p d : ℕ) (owner : Row → ℕ) (k : Kept w)
    (row : is_row w.table x ≡ true)
    (low : 1 ≤ p)
    (high : p < 34)
    (unopened : cell_at w.table x ≡ Fresh) where
  cells_stay : (r : Row) → cell_at (with_word w.table x p d) r ≡ cell_at w.table r
  cells_stay r = cell_after_word w.table x r p d row low high

  words_stay : (r : Row) (q : ℕ) → is_row w.table r ≡ true → q < 34 → (row_eq r x ≡ false) ⊎ (q ≡ p → ⊥) → word_at (with_word w.table x p d) r q ≡ word_at w.table r q
  words_stay r q h b n = word_other w.table x r p q d row h high b n

  lives_stay : (t : ℕ) → course_at (with_word w.table x p d) t ≡ course_at w.table t
  lives_stay t = ap (λ (f : ℕ → Course). f t) (course_after_word w.table x p d row high)

  ends_stay_draft : (s : Seen) (t : ℕ) → SeesEnd w s t → SeesEnd (with_table w (with_word w.table x p d)) s t
  ends_stay_draft s t sees g e = sees g (subst (λ (k : Course). EndsAt k g) (lives_stay t) e)

  nacks_stay : (n : NackName) → binding_at (with_word w.table x p d) n ≡ binding_at w.table n
  nacks_stay n = ap (λ (f : NackName → Option Binding). f n) (binding_after_word w.table x p d row high)

  carried_stay : (n : NackName) → carried_at (with_word w.table x p d) n ≡ carried_at w.table n
  carried_stay n = ap (λ (f : NackName → Option ℕ). f n) (carried_after_word w.table x p d row high)

  open_not_x : (r : Row) → is_fresh (cell_at w.table r) ≡ false → row_eq r x ≡ false
  open_not_x r h = row_ne r x (λ e. false≢true (sym h ∙ ap (λ (y : Row). is_fresh (cell_at w.table y)) e ∙ ap is_fresh unopened))

  staged_draft : (id : ℕ) (stage : Stage) → Staged w owner id stage → Staged (with_table w (with_word w.table x p d)) owner id stage
  staged_draft id Resting h = tt
  staged_draft id Aside h = tt
  staged_draft id Left h = tt
  staged_draft id (Claims m) h = (h.0, cells_stay m ∙ h.1, λ q. ap (λ (c : Cell). names (joined_of c) m) (cells_stay q) ∙ h.2 q)
  staged_draft id (Joins m o j) h = (h.0, cells_stay m ∙ h.1, ap joined_of (cells_stay o) ∙ h.2, h.3)

  read_kept : (r : Row) (q y : ℕ) → (is_fresh (cell_at w.table r) ≡ false) × (q < 34) × (1 ≤ q) × (word_at w.table r q ≡ y) → (is_fresh (cell_at (with_word w.table x p d) r) ≡ false) × (q < 34) × (1 ≤ q) × (word_at (with_word w.table x p d) r q ≡ y)
  read_kept r q y h = (ap is_fresh (cells_stay r) ∙ h.0, h.1, h.2, words_stay r q (row_of_open w.table r h.0) h.1 (inl (open_not_x r h.0)) ∙ h.3)

  module _ {M : Type 0} where
    after_draft : (id : ℕ) (v : View M) (ds : List (Row × ℕ × ℕ)) → Knows w owner id v
        → ((t : ℕ) (r : Row) → owner r ≡ id → is_row w.table r ≡ true → (¬ IsCounted v.seen r → word_at w.table r 1 ≡ 0) → ¬ ((count : ℕ) × Has ds (r, 1, count)) → word_at (with_word w.table x p d) r 1 ≡ 0)
        → ((r : Row) (q y : ℕ) → Has ds (r, q, y) → (owner r ≡ id) × (q < 34) × (1 ≤ q) × (holder_at w r ≡ Some v.seat) × (word_at (with_word w.table x p d) r q ≡ y))
        → Knows (with_table w (with_word w.table x p d)) owner id (at_stage v.stage (record v.seen { drafts = ds }) v)
    after_draft id v ds knows counts drafted = record {
      threads = knows.threads;
      rows = knows.rows;
      passes = knows.passes;
      seat = knows.seat;
      undealt = λ t h at_once e. let u = knows.undealt t h at_once e in (u.0, holder_kept w (with_word w.table x p d) (first_row t) refl refl ∙ u.1, (λ n. cells_stay (first_row t) ∙ u.2 n), (λ n. counts t (first_row t) u.0 (held_row w (first_row t) _ u.1) u.3 n), (λ n b g. u.4 n b (sym (nacks_stay n) ∙ g)), λ n. ends_stay_draft v.seen t (u.5 n));
      mine = λ r h. let m = knows.mine r h in (m.0, holder_kept w (with_word w.table x p d) r refl refl ∙ m.1);
      calm = λ r h e. knows.calm r h (sym (cells_stay r) ∙ e);
      staged = staged_draft id v.stage knows.staged;
      fresh = λ r h n. cells_stay r ∙ knows.fresh r h n;
      drafted = λ r q y h. let k = drafted r q y h in (k.0, k.1, k.2, holder_kept w (with_word w.table x p d) r refl refl ∙ k.3, k.4);
      opened = λ r h. ap is_fresh (cells_stay r) ∙ knows.opened r h;
      read = λ r q y h. read_kept r q y (knows.read r q y h);
      joined = λ r j h. ap joined_of (cells_stay r) ∙ knows.joined r j h;
      taken = λ r h. ap is_taken (cells_stay r) ∙ knows.taken r h;
      bound = λ n b h. nacks_stay n ∙ knows.bound n b h;
      carried = λ n stamp h. carried_stay n ∙ knows.carried n stamp h;
      settled = λ n stamp h. knows.settled n stamp (sym (carried_stay n) ∙ h);
      started = λ t s h. subst (λ (k : Course). HasStart k s) (sym (lives_stay t)) (knows.started t s h);
      ended = λ t g h. subst (λ (k : Course). EndsAt k g) (sym (lives_stay t)) (knows.ended t g h);
      lasts = λ t h. let k = knows.lasts t h in (k.0, k.1, ends_stay_draft v.seen t k.2);
      lively = λ r h n. ends_stay_draft v.seen r.thread (knows.lively r h n);
      binds = λ n b g. knows.binds n b (sym (nacks_stay n) ∙ g);
    }

    pub others_draft : (id : ℕ) (v : View M) → Knows w owner id v → (owner x ≡ id → ⊥) → Knows (with_table w (with_word w.table x p d)) owner id v
    others_draft id v knows other = after_draft id v v.seen.drafts knows
        (λ t r o i was n. words_stay r 1 i (omega arith) (inl (row_ne r x (λ e. other (ap owner (sym e) ∙ o)))) ∙ was n)
        (λ r q y h.
        let k = knows.drafted r q y h in
        (k.0, k.1, k.2, k.3, words_stay r q (held_row w r _ k.3) k.1 (inl (row_ne r x (λ e. other (ap owner (sym e) ∙ k.0)))) ∙ k.4))

  -- what was drafted at other places stays
  abbrev Elsewhere : List (Row × ℕ × ℕ) → Row → ℕ → ℕ → Type 0
  Elsewhere ds r q y = Has ds (r, q, y) × ((row_eq r x ≡ false) ⊎ (q ≡ p → ⊥))

  entry_elsewhere : (e : Row × ℕ × ℕ) (r : Row) (q y : ℕ) → e ≡ (r, q, y) → (row_eq e.0 x ≡ false) ⊎ (eqb e.1 p ≡ false) → (row_eq r x ≡ false) ⊎ (q ≡ p → ⊥)
  entry_elsewhere e r q y f (inl a) = inl (ap (λ (z : Row × ℕ × ℕ). row_eq z.0 x) (sym f) ∙ a)
  entry_elsewhere e r q y f (inr a) = inr (λ g. false≢true (sym a ∙ ap (λ (z : Row × ℕ × ℕ). eqb z.1 p) f ∙ Rattle.std.proofs.lemmas.Bool.eq-eqb q p g))

  kept_entry : (e : Row × ℕ × ℕ) (ds ks : List (Row × ℕ × ℕ)) (r : Row) (q y : ℕ) (a b : Bool) → row_eq e.0 x ≡ a → eqb e.1 p ≡ b
      → (Has ks (r, q, y) → Elsewhere ds r q y) → Has (cond (a && b) ks (e ∷ ks)) (r, q, y) → Elsewhere (e ∷ ds) r q y
  kept_entry e ds ks r q y true true s t rest h = let k = rest h in (inr k.0, k.1)
  kept_entry e ds ks r q y true false s t rest (inl f) = (inl f, entry_elsewhere e r q y f (inr t))
  kept_entry e ds ks r q y true false s t rest (inr h) = let k = rest h in (inr k.0, k.1)
  kept_entry e ds ks r q y false b s t rest (inl f) = (inl f, entry_elsewhere e r q y f (inl s))
  kept_entry e ds ks r q y false b s t rest (inr h) = let k = rest h in (inr k.0, k.1)

  kept_drafts : (ds : List (Row × ℕ × ℕ)) (r : Row) (q y : ℕ) → Has (without x p ds) (r, q, y) → Elsewhere ds r q y
  kept_drafts [] r q y h = absurd h
  kept_drafts (e ∷ ds) r q y h = kept_entry e ds (without x p ds) r q y (row_eq e.0 x) (eqb e.1 p) refl refl (λ i. kept_drafts ds r q y i) h

  module _ {M : Type 0} where
    pub own_draft : (id : ℕ) (v : View M) → Knows w owner id v → owner x ≡ id → holder_at w x ≡ Some v.seat → Knows (with_table w (with_word w.table x p d)) owner id (drafted_word x p d v)
    own_draft id v knows mine holds = after_draft id v ((x, p, d) ∷ without x p v.seen.drafts) knows (λ t r o i was n. counts_now r i was n) (λ r q y h. drafted_now r q y h)
      where
        elsewhere : (r : Row) → is_row w.table r ≡ true → (¬ IsCounted v.seen r → word_at w.table r 1 ≡ 0) → ¬ ((count : ℕ) × Has ((x, p, d) ∷ without x p v.seen.drafts) (r, 1, count))
            → (row_eq r x ≡ false) ⊎ (1 ≡ p → ⊥) → ¬ ((r ≡ x) × (1 ≡ p)) → word_at (with_word w.table x p d) r 1 ≡ 0
        elsewhere r i was n apart not_it = words_stay r 1 i (omega arith) apart ∙ was (λ l. n (l.0, inr (left x p v.seen.drafts r 1 l.0 not_it l.1)))

        counts_now : (r : Row) → is_row w.table r ≡ true → (¬ IsCounted v.seen r → word_at w.table r 1 ≡ 0) → ¬ ((count : ℕ) × Has ((x, p, d) ∷ without x p v.seen.drafts) (r, 1, count)) → word_at (with_word w.table x p d) r 1 ≡ 0
        counts_now r i was n = ⊎_elim
            (λ (e : r ≡ x). elsewhere r i was n (inr (λ (f : 1 ≡ p). n (d, inl (λ k. (sym e k, sym f k, d))))) (λ h. n (d, inl (λ k. (sym h.0 k, sym h.1 k, d)))))
            (λ (e : row_eq r x ≡ false). elsewhere r i was n (inl e) (λ h. row_eq-false r x e h.0))
            (row_cases r x)

        drafted_now : (r : Row) (q y : ℕ) → Has ((x, p, d) ∷ without x p v.seen.drafts) (r, q, y) → (owner r ≡ id) × (q < 34) × (1 ≤ q) × (holder_at w r ≡ Some v.seat) × (word_at (with_word w.table x p d) r q ≡ y)
        drafted_now r q y (inl e) =
            subst (λ (z : Row × ℕ × ℕ). (owner z.0 ≡ id) × (z.1 < 34) × (1 ≤ z.1) × (holder_at w z.0 ≡ Some v.seat) × (word_at (with_word w.table x p d) z.0 z.1 ≡ z.2)) e
            (mine, high, low, holds, Rattle.protocol_ledger.proofs.Places.word_same w.table x p d k.sized row high)
        drafted_now r q y (inr h) =
            let was = kept_drafts v.seen.drafts r q y h in
            let k = knows.drafted r q y was.0 in
            (k.0, k.1, k.2, k.3, words_stay r q (held_row w r _ k.3) k.1 was.1 ∙ k.4)
