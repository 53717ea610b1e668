-- What stands for the threads lies at home, and comes out and goes home, as the rule says.
use Rattle.std.specs.Bool.{⊤}
use Rattle.std.proofs.Common.{slice_set, ◌⊎◌, ◌≡◌, ◌≢◌, ◌<◌, ◌≤◌, ◌%◌, ℕ, Bool, true, false, cond, ◌+◌, List, [], ◌∷◌, ◌++◌, length, Option, Some, sym, refl, ap, ◌∙◌, subst, inl, inr, ⊎_elim, arith}
use Rattle.std.proofs.lemmas.Bool.{cases_Bool, cases_eq, cases_lt, true≢false, false≢true}
use Rattle.std.proofs.Math.Nat.{eq-or-lt_of_le}
use mathlib.Core.Option.{Option as Maybe, some, none}
use lib.ListN.{get_elem?}
use Rattle.atomic_table.proofs.Lists.{at_set, at_snoc, set_else, set_here}
use Rattle.protocol_values.specs.declared.Cell.{Cell}
use Rattle.protocol_values.specs.declared.Cell.TheVariants.{Fresh, Waiting, Claimed, Synched, Taken}
use Rattle.protocol_values.specs.declared.Course.{Course}
use Rattle.protocol_values.specs.declared.Course.TheVariants.{Unstarted, Running, Ended}
use Rattle.protocol_values.specs.declared.Joined.{Joined}
use Rattle.protocol_values.specs.declared.Row.{Row}
use Rattle.protocol_values.specs.declared.Seat.{Seat}
use Rattle.protocol_values.specs.declared.Step.{Step}
use Rattle.protocol_values.specs.declared.Step.TheVariants.{Draft, Open, Look, Read, Claim, Yield, Join, Seal, Grant, Take, Bind, Start, Finish}
use Rattle.protocol_ledger.specs.Growing.{GoesOn, GrowsTo}
use Rattle.protocol_ledger.specs.Kept.{Kept}
use Rattle.protocol_ledger.specs.Ledgers.{LivesAt, ledger_of}
use Rattle.protocol_ledger.specs.Standing.{EachStands, OffersAs, OpenedAs, Result, SomeStands, Stands}
use Rattle.protocol_values.specs.declared.Offer.{Offer}
use Rattle.protocol_ledger.specs.Tables.{Table, cell_at, course_at, is_fresh, is_taken}
use Rattle.protocol_values.specs.Values.{next_row}
use Rattle.protocol_ledger.specs.Worlds.{Allowed, World, after_step, first_row, holder_at}
use Rattle.protocol_ledger.proofs.Keeping.{is_held, taken_before}
use Rattle.protocol_ledger.proofs.Onward.{grows-step, opens-step, taken-step}
use Rattle.protocol_ledger.proofs.RowLemmas.{same_row}
use Rattle.protocol_ledger.proofs.Standing.{offers-stay, stands-step}
use Rattle.cell_table.specs.declared.view.View.{View}
use Rattle.cell_table.specs.declared.view.Seen.{Seen}
use Rattle.cell_table.specs.Sight.{Has, see_held, see_next}
use Rattle.cell_table.specs.Views.{RunsIn, opening_by}
use Rattle.std.proofs.Math.Dec.{ltb}
use Rattle.cell_table.specs.Rule.{HasOpenRow, Housed, IsHome, IsToBegin, StoodFirst, Waits}
use Rattle.cell_table.proofs.Takings.{opened_waits, takes_step}

-- a list has a first element or none
pub some_or_none : {A : Type 0} (xs : List A) → (length xs ≡ 0) ⊎ (0 < length xs)
some_or_none [] = inl refl
some_or_none (x ∷ xs) = inr (omega arith)

-- CELLS
fresh_untaken : (c : Cell) → is_fresh c ≡ true → is_taken c ≡ false
fresh_untaken Fresh e = refl
fresh_untaken Waiting e = absurd (false≢true e)
fresh_untaken Claimed e = absurd (false≢true e)
fresh_untaken (Synched j) e = absurd (false≢true e)
fresh_untaken (Taken j) e = absurd (false≢true e)

-- what goes on from a start has started
unstarted : (c d : Course) → GoesOn c d → d ≡ Unstarted → c ≡ Unstarted
unstarted Unstarted d on e = refl
unstarted (Running start) d (inl is) e = sym is ∙ e
unstarted (Running start) d (inr is) e = let bad : Ended start is.0 ≡ Unstarted = sym is.1 ∙ e in cc
unstarted (Ended start sync) d on e = sym on ∙ e

-- of two numbers
abbrev Ordered : ℕ → ℕ → Type 0
Ordered m n = (m < n) ⊎ ((m ≡ n) ⊎ (n < m))

ordered : (m n : ℕ) → Ordered m n
ordered m n = ⊎_elim
    (λ (below : m < n). inl below)
    (λ (above : n ≤ m). inr (⊎_elim (λ (e : n ≡ m). inl (sym e)) (λ (h : n < m). inr h) (eq-or-lt_of_le above)))
    (cases_lt m n)

module _ (w : World) (k : Kept w) where
  abbrev IsOpen : Row → Type 0
  IsOpen r = is_fresh (cell_at w.table r) ≡ false

  abbrev IsUntaken : Row → Type 0
  IsUntaken r = is_taken (cell_at w.table r) ≡ false

  -- the thread of an opened row has started
  open_started : (r : Row) → IsOpen r → course_at w.table r.thread ≢ Unstarted
  open_started r open_r e = subst (λ (c : Course). LivesAt c r.sync) e (k.linked.lived r open_r)

  -- a thread has one opened row at most that nobody has taken
  one_open : (q r : Row) → q.thread ≡ r.thread → IsOpen q → IsUntaken q → IsOpen r → IsUntaken r → q ≡ r
  one_open q r same open_q untaken_q open_r untaken_r = ⊎_elim
      (λ (below : q.sync < r.sync). absurd (true≢false (sym (taken_before w k q r (sym same) below (inl open_r)) ∙ untaken_q)))
      (λ (other : (q.sync ≡ r.sync) ⊎ (r.sync < q.sync)). ⊎_elim
      (λ (e : q.sync ≡ r.sync). same_row q r same e)
      (λ (above : r.sync < q.sync). absurd (true≢false (sym (taken_before w k r q same above (inl open_q)) ∙ untaken_r)))
      other)
      (ordered q.sync r.sync)

  -- where the first row of a thread is Fresh, no row of the thread is opened
  pub none_open : (first r : Row) → first.sync ≡ 0 → first.thread ≡ r.thread → is_fresh (cell_at w.table first) ≡ true → IsOpen r → ⊥
  none_open first r zero same fresh open_r = ⊎_elim
      (λ (below : first.sync < r.sync). true≢false (sym (taken_before w k first r (sym same) below (inl open_r)) ∙ fresh_untaken (cell_at w.table first) fresh))
      (λ (other : (first.sync ≡ r.sync) ⊎ (r.sync < first.sync)). ⊎_elim
      (λ (e : first.sync ≡ r.sync). true≢false (sym fresh ∙ ap (λ (x : Row). is_fresh (cell_at w.table x)) (same_row first r same e) ∙ open_r))
      (λ (above : r.sync < first.sync). let z = zero in absurd (omega arith))
      other)
      (ordered first.sync r.sync)

  -- and none but the first is held
  none_held : (first r : Row) (seat : ℕ) → first.sync ≡ 0 → first.thread ≡ r.thread → is_fresh (cell_at w.table first) ≡ true → holder_at w r ≡ Some seat → first ≡ r
  none_held first r seat zero same fresh held = ⊎_elim
      (λ (below : first.sync < r.sync). absurd (true≢false (sym (taken_before w k first r (sym same) below (inr (seat, held))) ∙ fresh_untaken (cell_at w.table first) fresh)))
      (λ (other : (first.sync ≡ r.sync) ⊎ (r.sync < first.sync)). ⊎_elim
      (λ (e : first.sync ≡ r.sync). same_row first r same e)
      (λ (above : r.sync < first.sync). let z = zero in absurd (omega arith))
      other)
      (ordered first.sync r.sync)

  -- beside a held row that is Fresh its thread has no opened row that nobody has taken
  all_taken : (q r : Row) (seat : ℕ) → q.thread ≡ r.thread → IsOpen q → IsUntaken q → is_fresh (cell_at w.table r) ≡ true → holder_at w r ≡ Some seat → ⊥
  all_taken q r seat same open_q untaken_q fresh held = ⊎_elim
      (λ (below : q.sync < r.sync). true≢false (sym (taken_before w k q r (sym same) below (inr (seat, held))) ∙ untaken_q))
      (λ (other : (q.sync ≡ r.sync) ⊎ (r.sync < q.sync)). ⊎_elim
      (λ (e : q.sync ≡ r.sync). true≢false (sym fresh ∙ ap (λ (x : Row). is_fresh (cell_at w.table x)) (sym (same_row q r same e)) ∙ open_q))
      (λ (above : r.sync < q.sync). true≢false (sym (taken_before w k r q same above (inl open_q)) ∙ fresh_untaken (cell_at w.table r) fresh))
      other)
      (ordered q.sync r.sync)

  module _ (seat : Seat) (step : Step) (allowed : Allowed w seat step) where
    -- what is not taken after a step was not before
    untaken_before : (r : Row) → is_taken (cell_at (after_step w seat step).table r) ≡ false → IsUntaken r
    untaken_before r h = ⊎_elim
        (λ (e : is_taken (cell_at w.table r) ≡ true). absurd (true≢false (sym (taken-step w seat step k allowed r e) ∙ h)))
        (λ (e : is_taken (cell_at w.table r) ≡ false). e)
        (cases_Bool (is_taken (cell_at w.table r)))

    -- what is Fresh stays so, but for the row that the step opens
    fresh_after : (r : Row) → is_fresh (cell_at w.table r) ≡ true → (step ≡ Open r → ⊥) → is_fresh (cell_at (after_step w seat step).table r) ≡ true
    fresh_after r fresh opens_other = ⊎_elim
        (λ (e : is_fresh (cell_at (after_step w seat step).table r) ≡ true). e)
        (λ (e : is_fresh (cell_at (after_step w seat step).table r) ≡ false). absurd (⊎_elim
        (λ (old : IsOpen r). true≢false (sym fresh ∙ old))
        (λ (new : step ≡ Open r). opens_other new)
        (opens-step w seat step k allowed r e)))
        (cases_Bool (is_fresh (cell_at (after_step w seat step).table r)))

    -- a row that is opened and that nobody has taken stays so, but for the row that the step takes
    open_after : (t : ℕ) → ((r : Row) → r.thread ≡ t → step ≡ Take r → ⊥) → HasOpenRow w.table t → HasOpenRow (after_step w seat step).table t
    open_after t takes_other o = (
      o.0,
      o.1,
      (grows-step w seat step k allowed).opened o.0 o.2,
      ⊎_elim
          (λ (e : is_taken (cell_at (after_step w seat step).table o.0) ≡ true). absurd (⊎_elim
          (λ (old : is_taken (cell_at w.table o.0) ≡ true). true≢false (sym old ∙ o.3))
          (λ (new : step ≡ Take o.0). takes_other o.0 o.1 new)
          (takes_step w seat step k allowed o.0 e)))
          (λ (e : is_taken (cell_at (after_step w seat step).table o.0) ≡ false). e)
          (cases_Bool (is_taken (cell_at (after_step w seat step).table o.0))),
    )

    -- a thread that has not started after a step had not before
    asleep_before : (t : ℕ) → t < (after_step w seat step).table.threads → course_at (after_step w seat step).table t ≡ Unstarted → (t < w.table.threads) × (course_at w.table t ≡ Unstarted)
    asleep_before t below e =
        let grows = grows-step w seat step k allowed in
        (subst (λ (n : ℕ). t < n) grows.threads below, unstarted (course_at w.table t) (course_at (after_step w seat step).table t) (grows.courses t) e)

-- the step opens no row and takes none, so what stands for the threads stays where it is
abbrev pub LeavesHomes : Step → Type 0
LeavesHomes (Draft r p v) = ⊤
LeavesHomes (Open r) = ⊥
LeavesHomes (Look r) = ⊤
LeavesHomes (Read r p) = ⊤
LeavesHomes (Claim r) = ⊤
LeavesHomes (Yield r) = ⊤
LeavesHomes (Join r n q m) = ⊤
LeavesHomes (Seal r) = ⊤
LeavesHomes (Grant r n) = ⊤
LeavesHomes (Take r) = ⊥
LeavesHomes (Bind n r scope) = ⊤
LeavesHomes (Start r thread) = ⊤
LeavesHomes (Finish r) = ⊤

leaves_opens : (step : Step) → LeavesHomes step → (r : Row) → step ≡ Open r → ⊥
leaves_opens step leaves r e = subst LeavesHomes e leaves

leaves_takes : (step : Step) → LeavesHomes step → (r : Row) → step ≡ Take r → ⊥
leaves_takes step leaves r e = subst LeavesHomes e leaves

-- a step that opens no row asks for nothing of what is opened
opened_none : (stands : ℕ → List Result → List Offer → List ℕ → Type 0) (t : Table) (step : Step) → ((r : Row) → step ≡ Open r → ⊥) → OpenedAs stands t step
opened_none stands t (Draft r p v) never = tt
opened_none stands t (Open r) never = absurd (never r refl)
opened_none stands t (Look r) never = tt
opened_none stands t (Read r p) never = tt
opened_none stands t (Claim r) never = tt
opened_none stands t (Yield r) never = tt
opened_none stands t (Join r n q m) never = tt
opened_none stands t (Seal r) never = tt
opened_none stands t (Grant r n) never = tt
opened_none stands t (Take r) never = tt
opened_none stands t (Bind n r scope) never = tt
opened_none stands t (Start r thread) never = tt
opened_none stands t (Finish r) never = tt

-- A ROW IS TAKEN: its pass is to begin with no other row than before, since a thread's next row is not its first
held_case : (b : Bool) (t u s : Seen) (x q : Row) → t.held ≡ x ∷ s.held → u.held ≡ s.held → (x ≡ q → ⊥) → Has (cond b t u).held q → Has s.held q
held_case true t u s x q e f apart h = ⊎_elim (λ (same : x ≡ q). absurd (apart same)) (λ (old : Has s.held q). old) (subst (λ (l : List Row). Has l q) e h)
held_case false t u s x q e f apart h = subst (λ (l : List Row). Has l q) f h

begun_case : (b : Bool) (t u s : Seen) → t.begun ≡ s.begun → u.begun ≡ s.begun → (cond b t u).begun ≡ s.begun
begun_case true t u s e f = e
begun_case false t u s e f = f

-- what a pass has seen once it holds the next row, and where there is none
abbrev next_seen : Row → Seen → Seen
next_seen r s = see_held (next_row r) s

abbrev last_seen : Row → Seen → Seen
last_seen r s = record s { lasts = r.thread ∷ s.lasts }

pub took_begins : {M : Type 0} (rows : ℕ) (r : Row) (s : Seen) (v : View M) (q : Row)
    → (q.sync ≡ 0) × (Has (see_next rows r s).held q ⊎ ((q.thread < v.threads) × RunsIn (opening_by v) q.thread × (v.dealt ≤ q.thread % v.passes))) × (¬ Has (see_next rows r s).begun q)
    → (q.sync ≡ 0) × (Has s.held q ⊎ ((q.thread < v.threads) × RunsIn (opening_by v) q.thread × (v.dealt ≤ q.thread % v.passes))) × (¬ Has s.begun q)
took_begins rows r s v q b = (
  b.0,
  ⊎_elim
      (λ (h : Has (see_next rows r s).held q). inl (held_case (ltb (r.sync + 1) rows) (next_seen r s) (last_seen r s) s (next_row r) q refl refl (λ e. let z = b.0 in let y : r.sync + 1 ≡ q.sync = ap (λ (x : Row). x.sync) e in absurd (omega arith)) h))
      (λ (d : (q.thread < v.threads) × RunsIn (opening_by v) q.thread × (v.dealt ≤ q.thread % v.passes)). inr d)
      b.1,
  λ h. b.2 (subst (λ (l : List Row). Has l q) (sym (begun_case (ltb (r.sync + 1) rows) (next_seen r s) (last_seen r s) s refl refl)) h),
)

pub took_begun : (rows : ℕ) (r : Row) (s : Seen) (q : Row) → Has (see_next rows r s).begun q → Has s.begun q
took_begun rows r s q h = subst (λ (l : List Row). Has l q) (begun_case (ltb (r.sync + 1) rows) (next_seen r s) (last_seen r s) s refl refl) h

-- and it holds what it held
holds_case : (b : Bool) (t u s : Seen) (x q : Row) → t.held ≡ x ∷ s.held → u.held ≡ s.held → Has s.held q → Has (cond b t u).held q
holds_case true t u s x q e f h = subst (λ (l : List Row). Has l q) (sym e) (inr h)
holds_case false t u s x q e f h = subst (λ (l : List Row). Has l q) (sym f) h

pub took_holds : (rows : ℕ) (r : Row) (s : Seen) (q : Row) → Has s.held q → Has (see_next rows r s).held q
took_holds rows r s q h = holds_case (ltb (r.sync + 1) rows) (next_seen r s) (last_seen r s) s (next_row r) q refl refl h

module _ {M : Type 0} (stands : Stands M) (first : List (Option M)) where
  -- A pass knows more, or other slots are out, or the world went on: what a pass is to begin with waits as it did
  waits_on : (w u : World) (homes homes' : List (Maybe (Option M))) (r : Row) → Waits first w homes r → is_fresh (cell_at u.table r) ≡ true → get_elem? homes' r.thread ≡ get_elem? homes r.thread → Waits first u homes' r
  waits_on w u homes homes' r h fresh same = record { fresh = fresh; value = h.value; is_first = h.is_first; home = same ∙ h.home }

  home_on : (w : World) (u : Table) (homes homes' : List (Maybe (Option M))) (r : Row) → Kept w → GrowsTo w.table u → is_fresh (cell_at w.table r) ≡ false → IsHome stands first (ledger_of w.table) homes r → get_elem? homes' r.thread ≡ get_elem? homes r.thread → IsHome stands first (ledger_of u) homes' r
  home_on w u homes homes' r k grows open_r h same = record { value = h.value; home = same ∙ h.home; offers = offers-stay (stands.offers first h.value) w u r k grows open_r h.offers }

  -- one pass has another view, and what that one is to begin with waits
  pub housed_seen : (w : World) (homes : List (Maybe (Option M))) (vs : List (View M)) (id : ℕ) (u : View M) → ((r : Row) → IsToBegin u r → Waits first w homes r) → Housed stands first w homes vs → Housed stands first w homes (slice_set vs id u)
  housed_seen w homes vs id u begins h = record {
    rows = h.rows;
    at_home = h.at_home;
    waiting = λ j x r e t b. ⊎_elim
        (λ (a : (j ≡ id) × (u ≡ x)). begins r (subst (λ (z : View M). IsToBegin z r) (sym a.1) b))
        (λ (a : (j ≢ id) × (get_elem? vs j ≡ some x)). h.waiting j x r a.1 t b)
        (at_set vs id j u x e);
    asleep = h.asleep;
    lies = h.lies;
  }

  pub housed_view : (w : World) (homes : List (Maybe (Option M))) (vs : List (View M)) (id : ℕ) (v u : View M) → get_elem? vs id ≡ some v → 0 < v.threads → ((r : Row) → IsToBegin u r → IsToBegin v r) → Housed stands first w homes vs → Housed stands first w homes (slice_set vs id u)
  housed_view w homes vs id v u view at_table begins h = housed_seen w homes vs id u (λ r b. h.waiting id v r view at_table (begins r b)) h

  -- a pass more, which is to begin with nothing
  pub housed_more : (w : World) (homes : List (Maybe (Option M))) (vs : List (View M)) (u : View M) → Housed stands first w homes vs → ((r : Row) → IsToBegin u r → Waits first w homes r) → Housed stands first w homes (vs ++ u ∷ [])
  housed_more w homes vs u h no_more = record {
    rows = h.rows;
    at_home = h.at_home;
    waiting = λ j x r e t b. ⊎_elim
        (λ (old : get_elem? vs j ≡ some x). h.waiting j x r old t b)
        (λ (new : u ≡ x). no_more r (subst (λ (z : View M). IsToBegin z r) (sym new) b))
        (at_snoc vs u x j e);
    asleep = h.asleep;
    lies = h.lies;
  }

  -- a pass that is of no table any more
  pub housed_spent : (w : World) (homes : List (Maybe (Option M))) (vs : List (View M)) (id : ℕ) (u : View M) → u.threads ≡ 0 → Housed stands first w homes vs → Housed stands first w homes (slice_set vs id u)
  housed_spent w homes vs id u gone h = record {
    rows = h.rows;
    at_home = h.at_home;
    waiting = λ j x r e t b. ⊎_elim
        (λ (a : (j ≡ id) × (u ≡ x)). let z : x.threads ≡ 0 = ap (λ (y : View M). y.threads) (sym a.1) ∙ gone in absurd (omega arith))
        (λ (a : (j ≢ id) × (get_elem? vs j ≡ some x)). h.waiting j x r a.1 t b)
        (at_set vs id j u x e);
    asleep = h.asleep;
    lies = h.lies;
  }

  -- A STEP IS MADE that opens no row: what is opened, and what waits, is as it was
  module _ (w : World) (seat : Seat) (step : Step) (homes : List (Maybe (Option M))) (vs : List (View M)) (id : ℕ) (u : View M) (k : Kept w) (allowed : Allowed w seat step) (never : (r : Row) → step ≡ Open r → ⊥) (begins : (r : Row) → IsToBegin u r → Waits first w homes r)
      (h : Housed stands first w homes vs) where
    on : (r : Row) → Waits first w homes r → Waits first (after_step w seat step) homes r
    on r waits = waits_on w (after_step w seat step) homes homes r waits (fresh_after w k seat step allowed r waits.fresh (never r)) refl

    rows_step : EachStands (SomeStands stands first) (after_step w seat step).table
    rows_step = stands-step (SomeStands stands first) w seat step k allowed h.rows (opened_none (SomeStands stands first) (after_step w seat step).table step never)

    was_open : (r : Row) → is_fresh (cell_at (after_step w seat step).table r) ≡ false → is_fresh (cell_at w.table r) ≡ false
    was_open r open_r = ⊎_elim (λ (old : is_fresh (cell_at w.table r) ≡ false). old) (λ (e : step ≡ Open r). absurd (never r e)) (opens-step w seat step k allowed r open_r)

    home_step : (r : Row) → is_fresh (cell_at (after_step w seat step).table r) ≡ false → is_taken (cell_at (after_step w seat step).table r) ≡ false → IsHome stands first (ledger_of (after_step w seat step).table) homes r
    home_step r open_r untaken =
        home_on w (after_step w seat step).table homes homes r k (grows-step w seat step k allowed) (was_open r open_r) (h.at_home r (was_open r open_r) (untaken_before w k seat step allowed r untaken)) refl

    waiting_step : (j : ℕ) (x : View M) (r : Row) → get_elem? (slice_set vs id u) j ≡ some x → 0 < x.threads → IsToBegin x r → Waits first (after_step w seat step) homes r
    waiting_step j x r e t b = on r ((housed_seen w homes vs id u begins h).waiting j x r e t b)

    asleep_step : (t : ℕ) → t < (after_step w seat step).table.threads → course_at (after_step w seat step).table t ≡ Unstarted → Waits first (after_step w seat step) homes (first_row t)
    asleep_step t below e = on (first_row t) (h.asleep t (asleep_before w k seat step allowed t below e).0 (asleep_before w k seat step allowed t below e).1)

    -- and what lies in a slot of whose thread no row is taken
    lies_step : (t : ℕ) (value : M) → ((r : Row) → r.thread ≡ t → step ≡ Take r → ⊥) → get_elem? homes t ≡ some (some (Some value)) → StoodFirst first (after_step w seat step).table t value ⊎ HasOpenRow (after_step w seat step).table t
    lies_step t value untaken home = ⊎_elim
        (λ (a : StoodFirst first w.table t value). inl (fresh_after w k seat step allowed (first_row t) a.0 (never (first_row t)), a.1))
        (λ (o : HasOpenRow w.table t). inr (open_after w k seat step allowed t untaken o))
        (h.lies t value home)

  -- a step that opens no row and takes none
  pub housed_step : (w : World) (seat : Seat) (step : Step) (homes : List (Maybe (Option M))) (vs : List (View M)) (id : ℕ) (u : View M) → Kept w → Allowed w seat step → LeavesHomes step → ((r : Row) → IsToBegin u r → Waits first w homes r)
      → Housed stands first w homes vs → Housed stands first (after_step w seat step) homes (slice_set vs id u)
  housed_step w seat step homes vs id u k allowed leaves begins h =
      let never = leaves_opens step leaves in
      record {
        rows = rows_step w seat step homes vs id u k allowed never begins h;
        at_home = home_step w seat step homes vs id u k allowed never begins h;
        waiting = waiting_step w seat step homes vs id u k allowed never begins h;
        asleep = asleep_step w seat step homes vs id u k allowed never begins h;
        lies = λ t value home. lies_step w seat step homes vs id u k allowed never begins h t value (λ r same e. leaves_takes step leaves r e) home;
      }

  -- nothing lies in a slot that was emptied
  emptied : (homes : List (Maybe (Option M))) (i t : ℕ) (value : M) → get_elem? (slice_set homes i none) t ≡ some (some (Some value)) → t ≢ i
  emptied homes i t value home = ⊎_elim
      (λ (a : (t ≡ i) × (none ≡ some (Some value))). absurd (mathlib.Core.Option.some-ne-none (Some value) (sym a.1)))
      (λ (b : (t ≢ i) × (get_elem? homes t ≡ some (some (Some value)))). b.0)
      (at_set homes i t none (some (Some value)) home)

  -- A ROW IS TAKEN: what stood for its thread comes out
  module _ (w : World) (seat : Seat) (r : Row) (j : Joined) (homes : List (Maybe (Option M))) (vs : List (View M)) (id : ℕ) (v u : View M) (k : Kept w) (allowed : Allowed w seat (Take r))
      (is : cell_at w.table r ≡ Synched j) (after_is : is_taken (cell_at (after_step w seat (Take r)).table r) ≡ true) (view : get_elem? vs id ≡ some v) (at_table : 0 < v.threads) (begins : (q : Row) → IsToBegin u q → IsToBegin v q) (h : Housed stands first w homes vs) where
    open_r : is_fresh (cell_at w.table r) ≡ false
    open_r = ap is_fresh is

    untaken_r : is_taken (cell_at w.table r) ≡ false
    untaken_r = ap is_taken is

    pub value_out : IsHome stands first (ledger_of w.table) homes r
    value_out = h.at_home r open_r untaken_r

    none_opens : (q : Row) → Take r ≡ Open q → ⊥
    none_opens q e = let bad : Take r ≡ Open q = e in cc

    one_takes : (q : Row) → Take r ≡ Take q → q ≡ r
    one_takes q e = let same : Take r ≡ Take q = e in cc

    -- the other slots are as they were
    stays : (t : ℕ) → t ≢ r.thread → get_elem? (slice_set homes r.thread none) t ≡ get_elem? homes t
    stays t apart = set_else homes r.thread t none apart

    pub housed_take : Housed stands first (after_step w seat (Take r)) (slice_set homes r.thread none) (slice_set vs id u)
    housed_take =
        let waits : (q : Row) → IsToBegin u q → Waits first w homes q = λ q b. h.waiting id v q view at_table (begins q b) in
        record {
          rows = rows_step w seat (Take r) homes vs id u k allowed none_opens waits h;
          at_home = λ q open_q untaken_q.
              let was = was_open w seat (Take r) homes vs id u k allowed none_opens waits h q open_q in
              let untaken = untaken_before w k seat (Take r) allowed q untaken_q in
              let apart : q.thread ≢ r.thread = λ same. let e = one_open w k q r same was untaken open_r untaken_r in true≢false (sym after_is ∙ ap (λ (x : Row). is_taken (cell_at (after_step w seat (Take r)).table x)) (sym e) ∙ untaken_q) in
              home_on w (after_step w seat (Take r)).table homes (slice_set homes r.thread none) q k (grows-step w seat (Take r) k allowed) was (h.at_home q was untaken) (stays q.thread apart);
          waiting = λ i x q e t b.
              let now = waiting_step w seat (Take r) homes vs id u k allowed none_opens waits h i x q e t b in
              let was = (housed_view w homes vs id v u view at_table begins h).waiting i x q e t b in
              let apart : q.thread ≢ r.thread = λ same. none_open w k q r b.0 same was.fresh open_r in
              waits_on (after_step w seat (Take r)) (after_step w seat (Take r)) homes (slice_set homes r.thread none) q now now.fresh (stays q.thread apart);
          asleep = λ t below e.
              let was = asleep_before w k seat (Take r) allowed t below e in
              let now = asleep_step w seat (Take r) homes vs id u k allowed none_opens waits h t below e in
              waits_on (after_step w seat (Take r)) (after_step w seat (Take r)) homes (slice_set homes r.thread none) (first_row t) now now.fresh
              (stays t (λ same. open_started w k r open_r (ap (course_at w.table) (sym same) ∙ was.1)));
          lies = λ t value home.
              let apart = emptied homes r.thread t value home in
              lies_step w seat (Take r) homes vs id u k allowed none_opens waits h t value (λ q same e. apart (sym same ∙ ap (λ (x : Row). x.thread) (one_takes q e))) (sym (stays t apart) ∙ home);
        }

  -- A PASS BEGINS with a thread: what stood for it at first comes out
  module _ (w : World) (r : Row) (homes : List (Maybe (Option M))) (vs : List (View M)) (id : ℕ) (v u : View M) (k : Kept w)
      (to_begin : IsToBegin v r) (started : course_at w.table r.thread ≢ Unstarted) (others : (j : ℕ) (x : View M) → j ≢ id → get_elem? vs j ≡ some x → 0 < x.threads → IsToBegin x r → ⊥) (view : get_elem? vs id ≡ some v) (at_table : 0 < v.threads)
      (begins : (q : Row) → IsToBegin u q → IsToBegin v q × (q ≢ r)) (h : Housed stands first w homes vs) where
    pub first_out : Waits first w homes r
    first_out = h.waiting id v r view at_table to_begin

    pub housed_begin : Housed stands first w (slice_set homes r.thread none) (slice_set vs id u)
    housed_begin = record {
      rows = h.rows;
      at_home = λ q open_q untaken_q.
          let apart : q.thread ≢ r.thread = λ same. none_open w k r q to_begin.0 (sym same) first_out.fresh open_q in
          let home = h.at_home q open_q untaken_q in
          record { value = home.value; home = set_else homes r.thread q.thread none apart ∙ home.home; offers = home.offers };
      waiting = λ j x q e t b. ⊎_elim
          (λ (a : (j ≡ id) × (u ≡ x)).
          let both = begins q (subst (λ (z : View M). IsToBegin z q) (sym a.1) b) in
          still q b.0 (λ same. both.1 same) (h.waiting id v q view at_table both.0))
          (λ (a : (j ≢ id) × (get_elem? vs j ≡ some x)). still q b.0 (λ same. others j x a.0 a.1 t (subst (IsToBegin x) same b)) (h.waiting j x q a.1 t b))
          (at_set vs id j u x e);
      asleep = λ t below e.
          let waits = h.asleep t below e in
          waits_on w w homes (slice_set homes r.thread none) (first_row t) waits waits.fresh (set_else homes r.thread t none (λ same. started (ap (course_at w.table) (sym same) ∙ e)));
      lies = λ t value home. h.lies t value (sym (set_else homes r.thread t none (emptied homes r.thread t value home)) ∙ home);
    }
      where
        still : (q : Row) → q.sync ≡ 0 → q ≢ r → Waits first w homes q → Waits first w (slice_set homes r.thread none) q
        still q zero apart waits = waits_on w w homes (slice_set homes r.thread none) q waits waits.fresh
            (set_else homes r.thread q.thread none (λ same. apart (same_row q r same (zero ∙ sym to_begin.0))))

  -- A ROW IS OPENED: what stands for its thread goes home
  module _ (w : World) (seat : Seat) (r : Row) (value : M) (homes : List (Maybe (Option M))) (vs : List (View M)) (id : ℕ) (v u : View M) (k : Kept w) (allowed : Allowed w seat (Open r))
      (room : r.thread < length homes) (fresh_r : is_fresh (cell_at w.table r) ≡ true) (held_r : holder_at w r ≡ Some seat.0)
      (offers : OffersAs (stands.offers first value) (ledger_of (after_step w seat (Open r)).table) r)
      (others : (j : ℕ) (x : View M) → j ≢ id → get_elem? vs j ≡ some x → 0 < x.threads → IsToBegin x r → ⊥) (mine : IsToBegin u r → ⊥)
      (view : get_elem? vs id ≡ some v) (at_table : 0 < v.threads) (begins : (q : Row) → IsToBegin u q → IsToBegin v q) (h : Housed stands first w homes vs) where
    abbrev opened_world : World
    opened_world = after_step w seat (Open r)

    abbrev filled : List (Maybe (Option M))
    filled = slice_set homes r.thread (some (Some value))

    one_opens : (q : Row) → Open r ≡ Open q → r ≡ q
    one_opens q e = ap (λ (s : Step). row_in s) e
      where
        row_in : Step → Row
        row_in (Draft x p n) = r
        row_in (Open x) = x
        row_in (Look x) = r
        row_in (Read x p) = r
        row_in (Claim x) = r
        row_in (Yield x) = r
        row_in (Join x n y m) = r
        row_in (Seal x) = r
        row_in (Grant x n) = r
        row_in (Take x) = r
        row_in (Bind n x scope) = r
        row_in (Start x thread) = r
        row_in (Finish x) = r

    waits_now : cell_at opened_world.table r ≡ Waiting
    waits_now = opened_waits w seat r k allowed

    pub housed_open : Housed stands first opened_world filled (slice_set vs id u)
    housed_open = record {
      rows = stands-step (SomeStands stands first) w seat (Open r) k allowed h.rows (record {
        results = offers.results;
        count = offers.count;
        are = offers.are;
        offers = offers.offers;
        nacks = offers.nacks;
        standing = (value, offers.standing);
        offered = offers.offered;
        whole = offers.whole;
        bound = offers.bound;
        no_others = offers.no_others;
      });
      at_home = λ q open_q untaken_q. ⊎_elim
          (λ (was : is_fresh (cell_at w.table q) ≡ false).
          let untaken = untaken_before w k seat (Open r) allowed q untaken_q in
          let apart : q.thread ≢ r.thread = λ same. all_taken w k q r seat.0 same was untaken fresh_r held_r in
          home_on w opened_world.table homes filled q k (grows-step w seat (Open r) k allowed) was (h.at_home q was untaken) (set_else homes r.thread q.thread (some (Some value)) apart))
          (λ (e : Open r ≡ Open q). subst (IsHome stands first (ledger_of opened_world.table) filled) (one_opens q e) (record { value = value; home = set_here homes r.thread (some (Some value)) room; offers = offers }))
          (opens-step w seat (Open r) k allowed q open_q);
      waiting = λ j x q e t b.
          let one = housed_view w homes vs id v u view at_table begins h in
          let was = one.waiting j x q e t b in
          let other : q ≢ r = λ same. ⊎_elim
          (λ (a : (j ≡ id) × (u ≡ x)). mine (subst (λ (z : View M). IsToBegin z r) (sym a.1) (subst (IsToBegin x) same b)))
          (λ (a : (j ≢ id) × (get_elem? vs j ≡ some x)). others j x a.0 a.1 t (subst (IsToBegin x) same b))
          (at_set vs id j u x e) in
          let apart : q.thread ≢ r.thread = λ same. other (none_held w k q r seat.0 b.0 same was.fresh held_r) in
          waits_on w opened_world homes filled q was (fresh_after w k seat (Open r) allowed q was.fresh (λ o. other (sym (one_opens q o)))) (set_else homes r.thread q.thread (some (Some value)) apart);
      asleep = λ t below e.
          let before = asleep_before w k seat (Open r) allowed t below e in
          let waits = h.asleep t before.0 before.1 in
          let apart : t ≢ r.thread = λ same. k.begun r (is_held w r seat.0 held_r) (ap (course_at w.table) (sym same) ∙ before.1) in
          waits_on w opened_world homes filled (first_row t) waits (fresh_after w k seat (Open r) allowed (first_row t) waits.fresh (λ o. apart (ap (λ (x : Row). x.thread) (sym (one_opens (first_row t) o))))) (set_else homes r.thread t (some (Some value)) apart);
      lies = λ t x home. ⊎_elim
          (λ (same : t ≡ r.thread). inr (r, sym same, ap is_fresh waits_now, ap is_taken waits_now))
          (λ (apart : t ≢ r.thread). ⊎_elim
          (λ (a : StoodFirst first w.table t x). inl (fresh_after w k seat (Open r) allowed (first_row t) a.0 (λ o. apart (ap (λ (y : Row). y.thread) (sym (one_opens (first_row t) o)))), a.1))
          (λ (o : HasOpenRow w.table t). inr (open_after w k seat (Open r) allowed t (λ q is e. let bad : Open r ≡ Take q = e in cc) o))
          (h.lies t x (sym (set_else homes r.thread t (some (Some value)) apart) ∙ home)))
          (cases_eq t r.thread);
    }
