-- What passes have seen stays true where a world changes in what nobody relies on: a row is taken, and the next is held.
use Rattle.std.proofs.Common.{◌⊎◌, ◌+◌, ◌%◌, ◌*◌, ◌≡◌, ◌≢◌, ℕ, zero, suc, ◌<◌, ◌≤◌, Bool, cond, true, false, List, ◌∷◌, length, get_or, slice_set, sym, refl, ap, ◌∙◌, subst, inl, inr, ⊎_elim, arith, Option, Some, None}
use Rattle.std.proofs.lemmas.Bool.{cases_Bool, cases_lt, eq-eqb, false≢true}
use Rattle.std.proofs.lemmas.List.{get_or-set_same}
use Rattle.std.proofs.Math.Nat.{eq-or-lt_of_le}
use Rattle.protocol_values.specs.declared.Seat.{Seat}
use Rattle.protocol_values.specs.declared.NackName.{NackName}
use Rattle.protocol_values.specs.declared.Binding.{Binding}
use Rattle.protocol_values.specs.declared.Course.{Course}
use Rattle.protocol_values.specs.declared.Row.{Row}
use Rattle.protocol_values.specs.declared.Joined.{Joined}
use Rattle.protocol_values.specs.declared.Cell.{Cell}
use Rattle.protocol_values.specs.declared.Cell.TheVariants.{Fresh, Claimed, Synched, Taken}
use Rattle.protocol_ledger.specs.Tables.{course_at, is_row, row_eq, is_fresh, is_taken, names, word_at, cell_at, joined_at, binding_at, bound_row, carried_at}
use Rattle.protocol_values.specs.Values.{next_row, joined_of}
use Rattle.protocol_ledger.specs.Worlds.{IsAlive, StandsAt, World, first_row, handed_last, holder_at, last_holder, with_cell, with_table, with_holders, handed}
use Rattle.protocol_ledger.specs.Kept.{Kept}
use Rattle.protocol_ledger.proofs.RowLemmas.{row_cases, row_ne, same_row, put, put_same, put_other}
use Rattle.protocol_ledger.proofs.Linking.{cases_Option, taken_open}
use Rattle.protocol_ledger.proofs.Readings.{row_of_open, row_after_cell, binding_after_cell, carried_after_cell, course_after_cell}
use Rattle.protocol_ledger.proofs.Keeping.{held_row, holder_lasted, last_kept_at, open_held, hand_other, hand_next, handed_same, cells_taken, taken_before, took}
use Rattle.protocol_ledger.proofs.Places.{row_inside, word_other}
use Rattle.cell_table.specs.declared.view.View.{View}
use Rattle.cell_table.specs.declared.view.Stage.{Stage}
use Rattle.cell_table.specs.declared.view.Stage.TheVariants.{Resting, Claims, Joins, Aside, Left}
use Rattle.cell_table.specs.declared.view.Seen.{Seen}
use Rattle.cell_table.specs.Sight.{Has, IsStand, SawEnded, see_held}
use Rattle.protocol_ledger.specs.Acting.{EndsAt, HasStart}
use Rattle.cell_table.specs.Views.{Knows, SeesEnd, Staged, at_stage, behind_last}
use Rattle.cell_table.proofs.Courses.{ended_some, fresh_is, opened_before, taken_below}

pub record Follows (w u : World) : Type 0 where
  pub threads : u.table.threads ≡ w.table.threads
  pub rows : u.table.rows ≡ w.table.rows
  pub seats : u.seats ≡ w.seats
  pub fresh : (r : Row) → cell_at w.table r ≡ Fresh → cell_at u.table r ≡ Fresh
  pub opened : (r : Row) → is_fresh (cell_at w.table r) ≡ false → is_fresh (cell_at u.table r) ≡ false
  pub joined : (r : Row) → joined_at u.table r ≡ joined_at w.table r
  pub taken : (r : Row) → is_taken (cell_at w.table r) ≡ true → is_taken (cell_at u.table r) ≡ true
  pub claimed : (r : Row) → cell_at w.table r ≡ Claimed → cell_at u.table r ≡ Claimed
  pub unclaimed : (r : Row) → cell_at u.table r ≡ Claimed → cell_at w.table r ≡ Claimed
  pub words : (r : Row) (p : ℕ) → is_row w.table r ≡ true → 1 ≤ p → p < 34 → word_at u.table r p ≡ word_at w.table r p
  pub held : (r : Row) (seat : ℕ) → holder_at w r ≡ Some seat → holder_at u r ≡ Some seat
  pub bound : (n : NackName) (b : Binding) → binding_at w.table n ≡ Some b → binding_at u.table n ≡ Some b
  pub carried : (n : NackName) → carried_at u.table n ≡ carried_at w.table n
  pub starts : (p s : ℕ) → HasStart (course_at w.table p) s → HasStart (course_at u.table p) s
  pub ends : (p g : ℕ) → EndsAt (course_at w.table p) g → EndsAt (course_at u.table p) g
  pub behind : (t seat : ℕ) → last_holder w t ≡ Some seat → last_holder u t ≡ Some seat

staged_follows : (w u : World) (owner : Row → ℕ) (id : ℕ) (stage : Stage) → Follows w u → Staged w owner id stage → Staged u owner id stage
staged_follows w u owner id Resting f h = tt
staged_follows w u owner id Aside f h = tt
staged_follows w u owner id Left f h = tt
staged_follows w u owner id (Claims m) f h = (h.0, f.claimed m h.1, λ q. ap (λ (o : Option Joined). names o m) (f.joined q) ∙ h.2 q)
staged_follows w u owner id (Joins m o j) f h = (h.0, f.claimed m h.1, f.joined o ∙ h.2, h.3)

-- of a thread somebody stands at this place: he holds the row, which is Fresh, or has taken the last one
abbrev pub IsPlace : World → Row → Type 0
IsPlace w r =
    ((seat : ℕ) × (holder_at w r ≡ Some seat) × (cell_at w.table r ≡ Fresh)) ⊎ ((r.sync ≡ w.table.rows) × ((seat : ℕ) × (last_holder w r.thread ≡ Some seat)))

-- then all rows before were taken
pub place_behind : (w : World) (q r : Row) → Kept w → q.thread ≡ r.thread → q.sync < r.sync → IsPlace w r → is_taken (cell_at w.table q) ≡ true
place_behind w q r k same below (inl h) = taken_before w k q r (sym same) below (inr (h.0, h.1))
place_behind w q r k same below (inr h) = by r.sync refl
  where
    by : (n : ℕ) → r.sync ≡ n → is_taken (cell_at w.table q) ≡ true
    by zero e = absurd (omega (arith, below, e))
    by (suc n) e =
        let last : Row = record { thread = r.thread; sync = n } in
        let rows : w.table.rows ≡ n + 1 = omega (arith, e, h.0) in
        let taken : is_taken (cell_at w.table last) ≡ true = k.last_held r.thread n h.1.0 h.1.1 rows in
        ⊎_elim
        (λ (at : q.sync ≡ n). ap (λ (x : Row). is_taken (cell_at w.table x)) (same_row q last same at) ∙ taken)
        (λ (low : q.sync < n). taken_before w k q last (sym same) low (inl (taken_open (cell_at w.table last) taken)))
        (eq-or-lt_of_le (let l : q.sync ≤ n = omega (arith, below, e) in l))

-- so it is the only one
no_place_above : (w : World) (q r : Row) → Kept w → q.thread ≡ r.thread → q.sync < r.sync → IsPlace w q → IsPlace w r → ⊥
no_place_above w q r k same below (inl h) p = let bad : false ≡ true = sym (ap is_taken h.2) ∙ place_behind w q r k same below p in cc
no_place_above w q r k same below (inr h) (inl p) = let inside = row_inside w.table r (held_row w r p.0 p.1) in omega (arith, below, h.0, inside.1)
no_place_above w q r k same below (inr h) (inr p) = omega (arith, below, h.0, p.0)

pub one_place : (w : World) (q r : Row) → Kept w → q.thread ≡ r.thread → IsPlace w q → IsPlace w r → q ≡ r
one_place w q r k same at there = ⊎_elim
    (λ (below : q.sync < r.sync). absurd (no_place_above w q r k same below at there))
    (λ (above : r.sync ≤ q.sync). ⊎_elim
    (λ (e : r.sync ≡ q.sync). same_row q r same (sym e))
    (λ (h : r.sync < q.sync). absurd (no_place_above w r q k (sym same) h there at))
    (eq-or-lt_of_le above))
    (cases_lt q.sync r.sync)

module _ {M : Type 0} where
  module _ (w : World) (owner : Row → ℕ) (id : ℕ) (v : View M) (k : Knows w owner id v) where
    -- where a pass stands, and where it is to deal
    pub place_held : (r : Row) → Has v.seen.held r → ¬ Has v.seen.opened r → IsPlace w r
    place_held r h n = inl (v.seat, (k.mine r h).1, k.fresh r h n)

    pub place_last : (t : ℕ) → Has v.seen.lasts t → IsPlace w (behind_last w.table.rows t)
    place_last t h = inr (refl, (v.seat, (k.lasts t h).1))

    pub stand_place : (r : Row) → IsStand v.rows v.seen r → IsPlace w r
    stand_place r (inl h) = place_held r h.0 h.1
    stand_place r (inr h) = inr (h.0 ∙ k.rows, (v.seat, (k.lasts r.thread h.1).1))

    pub stand_owned : (r : Row) → IsStand v.rows v.seen r → owner r ≡ id
    stand_owned r (inl h) = (k.mine r h.0).0
    stand_owned r (inr h) = ap owner (same_row r (behind_last w.table.rows r.thread) refl (h.0 ∙ k.rows)) ∙ (k.lasts r.thread h.1).0

    pub stand_ends : (r : Row) → IsStand v.rows v.seen r → SeesEnd w v.seen r.thread
    stand_ends r (inl h) = k.lively r h.0 h.1
    stand_ends r (inr h) = (k.lasts r.thread h.1).2

    -- in the words of the steps
    pub stands_at : (r : Row) → r.thread < w.table.threads → IsStand v.rows v.seen r → StandsAt w (record { 0 = v.seat }) r
    stands_at r below (inl h) = inl ((k.mine r h.0).1, k.fresh r h.0 h.1)
    stands_at r below (inr h) = inr (below, h.0 ∙ k.rows, (k.lasts r.thread h.1).1)

-- a thread of which no end was seen, where whoever stands there would have seen it
pub alive_unseen : (w : World) (s : Seen) (t : ℕ) → SeesEnd w s t → ¬ SawEnded s t → IsAlive w t
alive_unseen w s t sees unseen ended = let e = ended_some (course_at w.table t) ended in unseen (e.0, sees e.0 e.1)

module _ {M : Type 0} where
  -- A pass knows the world that follows, where it has seen by then all nacks that are bound anew to rows of its own, and the end of
  -- each thread that ends anew and at a place of which it stands.
  module _ (w u : World) (owner : Row → ℕ) (id : ℕ) (v : View M) (bs : List (NackName × Binding)) (ss es : List (ℕ × ℕ)) (f : Follows w u)
      (more : (n : NackName) (b : Binding) → Has v.seen.bound (n, b) → Has bs (n, b))
      (there : (n : NackName) (b : Binding) → Has bs (n, b) → binding_at u.table n ≡ Some b)
      (anew : (n : NackName) (b : Binding) → binding_at u.table n ≡ Some b → owner (bound_row n b) ≡ id → (binding_at w.table n ≡ Some b) ⊎ Has bs (n, b))
      (begun : (t s : ℕ) → Has ss (t, s) → HasStart (course_at u.table t) s)
      (over_more : (t g : ℕ) → Has v.seen.ended (t, g) → Has es (t, g))
      (over : (t g : ℕ) → Has es (t, g) → EndsAt (course_at u.table t) g)
      (over_anew : (r : Row) → owner r ≡ id → IsPlace w r → (g : ℕ) → EndsAt (course_at u.table r.thread) g → EndsAt (course_at w.table r.thread) g ⊎ Has es (r.thread, g)) where
    seen_bound : (n : NackName) (b : Binding) → (binding_at w.table n ≡ Some b) ⊎ Has bs (n, b) → (binding_at w.table n ≡ Some b → Has v.seen.bound (n, b)) → Has bs (n, b)
    seen_bound n b (inl e) old = more n b (old e)
    seen_bound n b (inr h) old = h

    seen_end : (r : Row) → owner r ≡ id → IsPlace w r → SeesEnd w v.seen r.thread → (g : ℕ) → EndsAt (course_at u.table r.thread) g → Has es (r.thread, g)
    seen_end r mine place sees g e = ⊎_elim
        (λ (old : EndsAt (course_at w.table r.thread) g). over_more r.thread g (sees g old))
        (λ (new : Has es (r.thread, g)). new)
        (over_anew r mine place g e)

    pub knows_anew : Knows w owner id v → Knows u owner id (at_stage v.stage (record v.seen { bound = bs; started = ss; ended = es }) v)
    knows_anew k = record {
      threads = k.threads ∙ sym f.threads;
      rows = k.rows ∙ sym f.rows;
      passes = k.passes ∙ sym f.seats;
      seat = subst (λ (n : ℕ). v.seat < n) (sym f.seats) k.seat;
      undealt = λ t h at_once d.
          let m : t % u.seats ≡ t % w.seats = ap (λ (n : ℕ). t % n) f.seats in
          let a = k.undealt t (subst (λ (n : ℕ). t < n) f.threads h) at_once (subst (λ (n : ℕ). v.dealt ≤ n) m d) in (
            a.0,
            f.held (first_row t) _ a.1 ∙ ap Some (sym m),
            (λ n. f.fresh (first_row t) (a.2 n)),
            (λ n. f.words (first_row t) 1 (held_row w (first_row t) _ a.1) (omega arith) (omega arith) ∙ a.3 n),
            (λ n b e same. seen_bound n b (anew n b e (ap owner same ∙ a.0)) (λ old. a.4 n b old same)),
            λ n. seen_end (first_row t) a.0 (inl (t % w.seats, a.1, a.2 n)) (a.5 n),
          );
      mine = λ r h. let a = k.mine r h in (a.0, f.held r v.seat a.1);
      calm = λ r h e. k.calm r h (f.unclaimed r e);
      staged = staged_follows w u owner id v.stage f k.staged;
      fresh = λ r h n. f.fresh r (k.fresh r h n);
      drafted = λ r p x h. let a = k.drafted r p x h in (a.0, a.1, a.2, f.held r v.seat a.3, f.words r p (held_row w r v.seat a.3) a.2 a.1 ∙ a.4);
      opened = λ r h. f.opened r (k.opened r h);
      read = λ r p x h. let a = k.read r p x h in (f.opened r a.0, a.1, a.2, f.words r p (row_of_open w.table r a.0) a.2 a.1 ∙ a.3);
      joined = λ r j h. f.joined r ∙ k.joined r j h;
      taken = λ r h. f.taken r (k.taken r h);
      bound = there;
      carried = λ n stamp h. f.carried n ∙ k.carried n stamp h;
      settled = λ n stamp h. k.settled n stamp (sym (f.carried n) ∙ h);
      started = begun;
      ended = over;
      lasts = λ t h. let a = k.lasts t h in (ap (λ (n : ℕ). owner (behind_last n t)) f.rows ∙ a.0, f.behind t v.seat a.1, seen_end (behind_last w.table.rows t) a.0 (place_last w owner id v k t h) a.2);
      lively = λ r h n. seen_end r (k.mine r h).0 (place_held w owner id v k r h n) (k.lively r h n);
      binds = λ n b e h. seen_bound n b (anew n b e (k.mine (bound_row n b) h).0) (λ old. k.binds n b old h);
    }

  -- where no thread ends anew
  pub knows_bound : (w u : World) (owner : Row → ℕ) (id : ℕ) (v : View M) (bs : List (NackName × Binding)) → Follows w u → ((t g : ℕ) → EndsAt (course_at u.table t) g → EndsAt (course_at w.table t) g)
      → ((n : NackName) (b : Binding) → Has v.seen.bound (n, b) → Has bs (n, b))
      → ((n : NackName) (b : Binding) → Has bs (n, b) → binding_at u.table n ≡ Some b)
      → ((n : NackName) (b : Binding) → binding_at u.table n ≡ Some b → owner (bound_row n b) ≡ id → (binding_at w.table n ≡ Some b) ⊎ Has bs (n, b))
      → Knows w owner id v → Knows u owner id (at_stage v.stage (record v.seen { bound = bs }) v)
  knows_bound w u owner id v bs f no_end more there anew k = knows_anew w u owner id v bs v.seen.started v.seen.ended f more there anew
      (λ t s h. f.starts t s (k.started t s h)) (λ t g h. h) (λ t g h. f.ends t g (k.ended t g h)) (λ r mine place g e. inl (no_end r.thread g e)) k

  pub knows_follows : (w u : World) (owner : Row → ℕ) (id : ℕ) (v : View M) → Follows w u → ((t g : ℕ) → EndsAt (course_at u.table t) g → EndsAt (course_at w.table t) g)
      → ((n : NackName) (b : Binding) → binding_at u.table n ≡ Some b → owner (bound_row n b) ≡ id → (binding_at w.table n ≡ Some b) ⊎ Has v.seen.bound (n, b)) → Knows w owner id v → Knows u owner id v
  knows_follows w u owner id v f no_end anew k = knows_bound w u owner id v v.seen.bound f no_end (λ n b h. h) (λ n b h. f.bound n b (k.bound n b h)) anew k

-- WHO OWNS WHAT may change for rows that nobody holds, and for places behind last rows at which nobody stands
staged_owned : (w : World) (owner owner' : Row → ℕ) (j : ℕ) (stage : Stage) → Kept w → ((r : Row) → holder_at w r ≢ None → owner r ≡ j → owner' r ≡ j) → Staged w owner j stage → Staged w owner' j stage
staged_owned w owner owner' j Resting k o h = tt
staged_owned w owner owner' j Aside k o h = tt
staged_owned w owner owner' j Left k o h = tt
staged_owned w owner owner' j (Claims m) k o h = (o m (open_held w m k (ap is_fresh h.1)) h.0, h.1, h.2)
staged_owned w owner owner' j (Joins m q i) k o h = (o m (open_held w m k (ap is_fresh h.1)) h.0, h.1, h.2, h.3)

pub some_seat : (w : World) (r : Row) (seat : ℕ) → holder_at w r ≡ Some seat → holder_at w r ≢ None
some_seat w r seat h n = let bad : Some seat ≡ None = sym h ∙ n in cc

pub some_last : (w : World) (t seat : ℕ) → last_holder w t ≡ Some seat → last_holder w t ≢ None
some_last w t seat h n = let bad : Some seat ≡ None = sym h ∙ n in cc

module _ {M : Type 0} where
  pub knows_owned : (w : World) (owner owner' : Row → ℕ) (j : ℕ) (u : View M) → Kept w → ((r : Row) → holder_at w r ≢ None → owner r ≡ j → owner' r ≡ j)
      → ((t : ℕ) → last_holder w t ≢ None → owner (behind_last w.table.rows t) ≡ j → owner' (behind_last w.table.rows t) ≡ j) → Knows w owner j u → Knows w owner' j u
  knows_owned w owner owner' j u kept o last k = record {
    threads = k.threads;
    rows = k.rows;
    passes = k.passes;
    seat = k.seat;
    undealt = λ t h at_once d. let a = k.undealt t h at_once d in (o (first_row t) (some_seat w (first_row t) _ a.1) a.0, a.1, a.2, a.3, a.4, a.5);
    mine = λ r h. let a = k.mine r h in (o r (some_seat w r _ a.1) a.0, a.1);
    calm = k.calm;
    staged = staged_owned w owner owner' j u.stage kept o k.staged;
    fresh = k.fresh;
    drafted = λ r p x h. let a = k.drafted r p x h in (o r (some_seat w r _ a.3) a.0, a.1, a.2, a.3, a.4);
    opened = k.opened;
    read = k.read;
    joined = k.joined;
    taken = k.taken;
    bound = k.bound;
    carried = k.carried;
    settled = k.settled;
    started = k.started;
    ended = k.ended;
    lasts = λ t h. let a = k.lasts t h in (last t (some_last w t _ a.1) a.0, a.1, a.2);
    lively = k.lively;
    binds = k.binds;
  }

  -- A PASS HOLDS ONE ROW MORE, which is Fresh and has no offers, to which no nack is bound, and whose thread has ended only if it was seen so
  pub hold_more : (w : World) (owner : Row → ℕ) (id : ℕ) (v : View M) (x : Row) → Knows w owner id v → owner x ≡ id → holder_at w x ≡ Some v.seat → cell_at w.table x ≡ Fresh → word_at w.table x 1 ≡ 0 → ((n : NackName) (b : Binding) → binding_at w.table n ≡ Some b → bound_row n b ≢ x)
      → SeesEnd w v.seen x.thread → Knows w owner id (at_stage v.stage (see_held x v.seen) v)
  hold_more w owner id v x k mine held fresh none unbound sees = record {
    threads = k.threads;
    rows = k.rows;
    passes = k.passes;
    seat = k.seat;
    undealt = λ t h at_once d. let a = k.undealt t h at_once d in (a.0, a.1, a.2, (λ n. a.3 (λ l. n (l.0, inr l.1))), a.4, a.5);
    mine = λ r h. mine_now r h;
    calm = λ r h e. calm_now r h e;
    staged = k.staged;
    fresh = λ r h n. fresh_now r h n;
    drafted = λ r p d h. drafted_now r p d h;
    opened = k.opened;
    read = k.read;
    joined = k.joined;
    taken = k.taken;
    bound = k.bound;
    carried = k.carried;
    settled = k.settled;
    started = k.started;
    ended = k.ended;
    lasts = k.lasts;
    lively = λ r h n. lively_now r h n;
    binds = λ n b e h. binds_now n b e h;
  }
    where
      binds_now : (n : NackName) (b : Binding) → binding_at w.table n ≡ Some b → Has (x ∷ v.seen.held) (bound_row n b) → Has v.seen.bound (n, b)
      binds_now n b e (inl same) = absurd (unbound n b e (sym same))
      binds_now n b e (inr h) = k.binds n b e h

      mine_now : (r : Row) → Has (x ∷ v.seen.held) r → (owner r ≡ id) × (holder_at w r ≡ Some v.seat)
      mine_now r (inl e) = (ap owner (sym e) ∙ mine, ap (holder_at w) (sym e) ∙ held)
      mine_now r (inr h) = k.mine r h

      calm_now : (r : Row) → Has (x ∷ v.seen.held) r → cell_at w.table r ≡ Claimed → Rattle.cell_table.specs.Views.IsClaimer v.stage r
      calm_now r (inl e) h = let bad : Fresh ≡ Claimed = sym fresh ∙ ap (cell_at w.table) e ∙ h in cc
      calm_now r (inr i) h = k.calm r i h

      fresh_now : (r : Row) → Has (x ∷ v.seen.held) r → ¬ Has v.seen.opened r → cell_at w.table r ≡ Fresh
      fresh_now r (inl e) n = ap (cell_at w.table) (sym e) ∙ fresh
      fresh_now r (inr i) n = k.fresh r i n

      lively_now : (r : Row) → Has (x ∷ v.seen.held) r → ¬ Has v.seen.opened r → SeesEnd w v.seen r.thread
      lively_now r (inl e) n = subst (λ (y : Row). SeesEnd w v.seen y.thread) e sees
      lively_now r (inr i) n = k.lively r i n

      drafted_now : (r : Row) (p d : ℕ) → Has ((x, 1, 0) ∷ v.seen.drafts) (r, p, d) → (owner r ≡ id) × (p < 34) × (1 ≤ p) × (holder_at w r ≡ Some v.seat) × (word_at w.table r p ≡ d)
      drafted_now r p d (inl e) =
          subst (λ (z : Row × ℕ × ℕ). (owner z.0 ≡ id) × (z.1 < 34) × (1 ≤ z.1) × (holder_at w z.0 ≡ Some v.seat) × (word_at w.table z.0 z.1 ≡ z.2)) e
          (mine, omega arith, omega arith, held, none)
      drafted_now r p d (inr h) = k.drafted r p d h

  -- or stands behind one thread's last row more
  pub stand_behind : (w : World) (owner : Row → ℕ) (id : ℕ) (v : View M) (x : ℕ) → Knows w owner id v → owner (behind_last w.table.rows x) ≡ id → last_holder w x ≡ Some v.seat → SeesEnd w v.seen x
      → Knows w owner id (at_stage v.stage (record v.seen { lasts = x ∷ v.seen.lasts }) v)
  stand_behind w owner id v x k mine held sees = record {
    threads = k.threads;
    rows = k.rows;
    passes = k.passes;
    seat = k.seat;
    undealt = k.undealt;
    mine = k.mine;
    calm = k.calm;
    staged = k.staged;
    fresh = k.fresh;
    drafted = k.drafted;
    opened = k.opened;
    read = k.read;
    joined = k.joined;
    taken = k.taken;
    bound = k.bound;
    carried = k.carried;
    settled = k.settled;
    started = k.started;
    ended = k.ended;
    lasts = λ t h. lasts_now t h;
    lively = k.lively;
    binds = k.binds;
  }
    where
      lasts_now : (t : ℕ) → Has (x ∷ v.seen.lasts) t → (owner (behind_last w.table.rows t) ≡ id) × (last_holder w t ≡ Some v.seat) × SeesEnd w v.seen t
      lasts_now t (inl e) = subst (λ (y : ℕ). (owner (behind_last w.table.rows y) ≡ id) × (last_holder w y ≡ Some v.seat) × SeesEnd w v.seen y) e (mine, held, sees)
      lasts_now t (inr h) = k.lasts t h

-- A ROW IS TAKEN
module _ (w : World) (seat : Seat) (x : Row) (j : Joined) (k : Kept w) (is : cell_at w.table x ≡ Synched j) where
  abbrev pub taken_world : World
  taken_world = took w seat x (with_cell w.table x (Taken j))

  cells : cell_at (with_cell w.table x (Taken j)) ≡ put (cell_at w.table) x (Taken j)
  cells = cells_taken w x j k is

  at_x : cell_at (with_cell w.table x (Taken j)) x ≡ Taken j
  at_x = ap (λ (f : Row → Cell). f x) cells ∙ put_same (cell_at w.table) x (Taken j)

  same_cell : (r : Row) → row_eq r x ≡ false → cell_at (with_cell w.table x (Taken j)) r ≡ cell_at w.table r
  same_cell r e = ap (λ (f : Row → Cell). f r) cells ∙ put_other (cell_at w.table) x (Taken j) r e

  -- nobody held the row behind it, nor opened it
  pub not_held : (q : Row) (s : ℕ) → holder_at w q ≡ Some s → row_eq q (next_row x) ≡ false
  not_held q s h = row_ne q (next_row x) (λ e.
      let taken : is_taken (cell_at w.table x) ≡ true = k.held x.thread x.sync s (ap (holder_at w) (sym e) ∙ h) in
      false≢true (sym (ap is_taken is) ∙ taken))

  pub next_unopened : is_fresh (cell_at w.table (next_row x)) ≡ true
  next_unopened = ⊎_elim
      (λ (e : is_fresh (cell_at w.table (next_row x)) ≡ true). e)
      (λ (e : is_fresh (cell_at w.table (next_row x)) ≡ false). absurd (false≢true (sym (ap is_taken is) ∙ k.linked.in_turn x.thread x.sync e)))
      (cases_Bool (is_fresh (cell_at w.table (next_row x))))

  next_unheld : holder_at w (next_row x) ≡ None
  next_unheld = ⊎_elim
      (λ (e : holder_at w (next_row x) ≡ None). e)
      (λ (s : (s : ℕ) × (holder_at w (next_row x) ≡ Some s)). absurd (false≢true (sym (not_held (next_row x) s.0 s.1) ∙ Rattle.protocol_ledger.proofs.RowLemmas.row_eq-refl (next_row x))))
      (cases_Option (holder_at w (next_row x)))

  word_kept : (r : Row) (p : ℕ) → is_row w.table r ≡ true → 1 ≤ p → p < 34 → word_at (with_cell w.table x (Taken j)) r p ≡ word_at w.table r p
  unfolding with_cell
  word_kept r p h a b = word_other w.table x r 0 p _ (row_of_open w.table x (ap is_fresh is)) h (omega arith) b (inr (λ (z : p ≡ 0). absurd (omega arith)))

  size_after : ((with_cell w.table x (Taken j)).threads ≡ w.table.threads) × ((with_cell w.table x (Taken j)).rows ≡ w.table.rows)
  unfolding with_cell
  size_after = (refl, refl)

  hands_after : handed w.table w.holders seat x ≡ handed (with_cell w.table x (Taken j)) w.holders seat x
  hands_after = sym (handed_same w.table (with_cell w.table x (Taken j)) w.holders seat x size_after.0 size_after.1)

  other_holder : (r : Row) → row_eq r (next_row x) ≡ false → holder_at taken_world r ≡ holder_at w r
  other_holder r e =
      holder_lasted (with_holders (with_table w (with_cell w.table x (Taken j))) (handed w.table w.holders seat x)) (handed_last w.table w.lasts seat x) r
      ∙ ap (λ (hs : List (Option ℕ)). holder_at (with_holders (with_table w (with_cell w.table x (Taken j))) hs) r) hands_after
      ∙ hand_other (with_table w (with_cell w.table x (Taken j))) seat x r e
      ∙ Rattle.protocol_ledger.proofs.Keeping.holder_same w (with_cell w.table x (Taken j)) r size_after.0 size_after.1

  pub bindings_after : (n : NackName) → binding_at (with_cell w.table x (Taken j)) n ≡ binding_at w.table n
  bindings_after n = ap (λ (f : NackName → Option Binding). f n) (binding_after_cell w.table x (Taken j) (row_of_open w.table x (ap is_fresh is)))

  -- no nack is bound to the row behind it
  pub next_unbound : (n : NackName) (b : Binding) → binding_at taken_world.table n ≡ Some b → bound_row n b ≢ next_row x
  next_unbound n b e same = k.bound n b (sym (bindings_after n) ∙ e) (ap (holder_at w) same ∙ next_unheld)

  courses_after : (p : ℕ) → course_at (with_cell w.table x (Taken j)) p ≡ course_at w.table p
  courses_after p = ap (λ (f : ℕ → Course). f p) (course_after_cell w.table x (Taken j) (row_of_open w.table x (ap is_fresh is)))

  pub no_end_taken : (t g : ℕ) → EndsAt (course_at taken_world.table t) g → EndsAt (course_at w.table t) g
  no_end_taken t g h = subst (λ (c : Course). EndsAt c g) (courses_after t) h

  -- the thread of the row has not ended: of one that has, an opened row before the end is taken, and none behind it is opened
  pub goes_on : (g : ℕ) → EndsAt (course_at w.table x.thread) g → ⊥
  goes_on g e = false≢true (sym (ap is_taken is) ∙ taken_below w x g k e (opened_before w x g k (ap is_fresh is) e))

  -- nobody stood behind the thread's last row, if that is this one
  pub not_last : (t s : ℕ) → last_holder w t ≡ Some s → t ≡ x.thread → x.sync + 1 ≡ w.table.rows → ⊥
  not_last t s h same end = false≢true (sym (ap is_taken is) ∙ ap (λ (n : ℕ). is_taken (cell_at w.table (record { thread = n; sync = x.sync }))) (sym same) ∙ k.last_held t x.sync s h (sym end))

  pub follows_taken : Follows w taken_world
  follows_taken = record {
    threads = size_after.0;
    rows = size_after.1;
    seats = refl;
    fresh = λ r h. same_cell r (row_ne r x (λ e. let bad : Fresh ≡ Synched j = sym h ∙ ap (cell_at w.table) e ∙ is in cc)) ∙ h;
    opened = λ r h. ⊎_elim
        (λ (e : r ≡ x). ap (λ (y : Row). is_fresh (cell_at (with_cell w.table x (Taken j)) y)) e ∙ ap is_fresh at_x)
        (λ (e : row_eq r x ≡ false). ap is_fresh (same_cell r e) ∙ h)
        (row_cases r x);
    joined = λ r. ⊎_elim
        (λ (e : r ≡ x). ap (λ (y : Row). joined_at (with_cell w.table x (Taken j)) y) e ∙ ap joined_of at_x ∙ sym (ap joined_of is) ∙ ap (λ (y : Row). joined_at w.table y) (sym e))
        (λ (e : row_eq r x ≡ false). ap joined_of (same_cell r e))
        (row_cases r x);
    taken = λ r h. ⊎_elim
        (λ (e : r ≡ x). ap (λ (y : Row). is_taken (cell_at (with_cell w.table x (Taken j)) y)) e ∙ ap is_taken at_x)
        (λ (e : row_eq r x ≡ false). ap is_taken (same_cell r e) ∙ h)
        (row_cases r x);
    claimed = λ r h. same_cell r (row_ne r x (λ e. let bad : Claimed ≡ Synched j = sym h ∙ ap (cell_at w.table) e ∙ is in cc)) ∙ h;
    unclaimed = λ r h. ⊎_elim
        (λ (e : r ≡ x). let bad : Taken j ≡ Claimed = sym at_x ∙ ap (cell_at (with_cell w.table x (Taken j))) (sym e) ∙ h in cc)
        (λ (e : row_eq r x ≡ false). sym (same_cell r e) ∙ h)
        (row_cases r x);
    words = word_kept;
    held = λ r s h. other_holder r (not_held r s h) ∙ h;
    bound = λ n b e. bindings_after n ∙ e;
    carried = λ n. ap (λ (f : NackName → Option ℕ). f n) (carried_after_cell w.table x (Taken j) (row_of_open w.table x (ap is_fresh is)));
    starts = λ p s h. subst (λ (c : Course). HasStart c s) (sym (courses_after p)) h;
    ends = λ p g h. subst (λ (c : Course). EndsAt c g) (sym (courses_after p)) h;
    behind = λ t s h. last_kept_at w.table w.lasts seat x t (λ same end. not_last t s h same end) ∙ h;
  }

  pub taken_at : cell_at taken_world.table x ≡ Taken j
  taken_at = at_x

  -- where it was the last one, the place behind it is the seat's
  pub last_held_now : x.sync + 1 ≡ w.table.rows → last_holder taken_world x.thread ≡ Some seat.0
  unfolding handed_last
  last_held_now end =
      let inside = row_inside w.table x (row_of_open w.table x (ap is_fresh is)) in
      let room : x.thread < length w.lasts = omega (arith, inside.0, k.seated_last) in
      ap (λ (b : Bool). get_or (cond b (slice_set w.lasts x.thread (Some seat.0)) w.lasts) x.thread None) (eq-eqb (x.sync + 1) w.table.rows end)
      ∙ get_or-set_same w.lasts x.thread (Some seat.0) None room

  -- the row behind it, where the table has it
  pub next_held : is_row w.table (next_row x) ≡ true → (holder_at taken_world (next_row x) ≡ Some seat.0) × (cell_at taken_world.table (next_row x) ≡ Fresh) × (word_at taken_world.table (next_row x) 1 ≡ 0)
  next_held row = (
    holder_lasted (with_holders (with_table w (with_cell w.table x (Taken j))) (handed w.table w.holders seat x)) (handed_last w.table w.lasts seat x) (next_row x)
        ∙ ap (λ (hs : List (Option ℕ)). holder_at (with_holders (with_table w (with_cell w.table x (Taken j))) hs) (next_row x)) hands_after
        ∙ hand_next (with_table w (with_cell w.table x (Taken j))) seat x (k.seated ∙ sized_same) (row_after_cell w.table x (next_row x) (Taken j) ∙ row),
    follows_taken.fresh (next_row x) (fresh_is (cell_at w.table (next_row x)) next_unopened),
    word_kept (next_row x) 1 row (omega arith) (omega arith) ∙ k.blank (next_row x) 1 row (omega arith) next_unheld,
  )
    where
      sized_same : w.table.threads * w.table.rows ≡ (with_cell w.table x (Taken j)).threads * (with_cell w.table x (Taken j)).rows
      sized_same = λ i. sym size_after.0 i * sym size_after.1 i
