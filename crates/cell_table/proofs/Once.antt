-- A step of some kinds is made by one pass at most: a row is taken once, and a thread started and ended once. And where no pass has
-- made a step, nothing has happened.
use Rattle.std.proofs.Common.{◌≡◌, ◌≢◌, ◌⊎◌, ◌≤◌, ℕ, zero, suc, Bool, true, false, cond, List, [], ◌∷◌, ◌++◌, length, sym, refl, ap, ◌∙◌, subst, inl, inr, ⊎_elim, arith, Option, is_some, eqb}
use Rattle.std.proofs.lemmas.Bool.{eq-eqb, eqb-true, false≢true}
use mathlib.Core.Option.{some}
use lib.ListN.{get_elem?}
use Rattle.protocol_values.specs.declared.Seat.{Seat}
use Rattle.protocol_values.specs.declared.Step.{Step}
use Rattle.protocol_values.specs.declared.Step.TheVariants.{Finish, Start, Take}
use Rattle.protocol_values.specs.declared.Row.{Row}
use Rattle.protocol_values.specs.declared.Joined.{Joined}
use Rattle.protocol_values.specs.declared.Course.{Course}
use Rattle.protocol_values.specs.declared.Course.TheVariants.{Unstarted, Running, Ended}
use Rattle.protocol_values.specs.declared.Cell.{Cell}
use Rattle.protocol_values.specs.declared.Cell.TheVariants.{Fresh, Waiting, Claimed, Synched, Taken}
use Rattle.protocol_ledger.specs.Growing.{GoesOn}
use Rattle.protocol_ledger.specs.Tables.{cell_at, course_at, is_taken, joined_at, last_stamp, marks_at, synched_of}
use Rattle.protocol_ledger.specs.Worlds.{World, Allowed, HasEnded, Plays, after_step, ended_at, with_take}
use Rattle.protocol_ledger.specs.Kept.{Kept}
use Rattle.protocol_ledger.proofs.Keeping.{cells_taken, end_in_range, kept_schedule, stamp_in_range, stands_inside}
use Rattle.protocol_ledger.proofs.Onward.{grows-step, taken-step}
use Rattle.protocol_ledger.proofs.Readings.{course_lived}
use Rattle.protocol_ledger.proofs.RowLemmas.{put_same}
use Rattle.cell_table.specs.declared.view.View.{View}
use Rattle.cell_table.specs.Sight.{Has}
use Rattle.cell_table.specs.Rule.{Interleaves, Move, at_seat, in_order, steps_by}

-- what lets a row be taken
pub synched_is : (c : Cell) → is_some (synched_of c) ≡ true → (j : Joined) × (c ≡ Synched j)
synched_is Fresh h = absurd (false≢true h)
synched_is Waiting h = absurd (false≢true h)
synched_is Claimed h = absurd (false≢true h)
synched_is (Synched j) h = (j, refl)
synched_is (Taken j) h = absurd (false≢true h)

-- A HISTORY
pub last_played : (w v : World) (steps : List (Seat × Step)) (s : Seat × Step) → Plays w (steps ++ s ∷ []) v → (u : World) × Plays w steps u × Allowed u s.0 s.1 × (v ≡ after_step u s.0 s.1)
last_played w v [] s p = (w, refl, p.0, p.1)
last_played w v (x ∷ steps) s p = let l = last_played (after_step w x.0 x.1) v steps s p.1 in (l.0, (p.0, l.1), l.2, l.3)

-- what a pass has made is in the history
has_at_seat : (seat : ℕ) (made : List Step) (step : Step) → Has made step → Has (at_seat seat made) (record { 0 = seat }, step)
has_at_seat seat [] step h = absurd h
has_at_seat seat (s ∷ made) step (inl e) = inl (ap (λ (z : Step). (record { 0 = seat }, z)) e)
has_at_seat seat (s ∷ made) step (inr h) = inr (has_at_seat seat made step h)

-- A step of such a kind is made by one pass at most, where something holds once it was made, that stays so, and with which no such
-- step is allowed.
module _ (Is : Step → Type 0) (Done : World → Type 0)
    (makes : (w : World) (seat : Seat) (step : Step) → Kept w → Allowed w seat step → Is step → Done (after_step w seat step))
    (stays : (w : World) (seat : Seat) (step : Step) → Kept w → Allowed w seat step → Done w → Done (after_step w seat step))
    (once : (w : World) (seat : Seat) (step : Step) → Allowed w seat step → Is step → Done w → ⊥) where
  abbrev MadeBy : List Move → ℕ → Type 0
  MadeBy [] id = ⊥
  MadeBy (m ∷ moves) id = ((m.pass ≡ id) × Is m.step) ⊎ MadeBy moves id

  done_now : (w v : World) (moves : List Move) (id : ℕ) → Kept w → Plays w (in_order moves) v → MadeBy moves id → Done v
  done_now w v [] id kept p h = absurd h
  done_now w v (m ∷ moves) id kept p (inl h) =
      let l = last_played w v (in_order moves) (m.seat, m.step) p in
      subst Done (sym l.3) (makes l.0 m.seat m.step (kept_schedule w l.0 (in_order moves) kept l.1) l.2 h.1)
  done_now w v (m ∷ moves) id kept p (inr h) =
      let l = last_played w v (in_order moves) (m.seat, m.step) p in
      subst Done (sym l.3) (stays l.0 m.seat m.step (kept_schedule w l.0 (in_order moves) kept l.1) l.2 (done_now w l.0 moves id kept l.1 h))

  not_again : (w v : World) (m : Move) (moves : List Move) (id : ℕ) → Kept w → Plays w (in_order (m ∷ moves)) v → Is m.step → MadeBy moves id → ⊥
  not_again w v m moves id kept p is h =
      let l = last_played w v (in_order moves) (m.seat, m.step) p in
      once l.0 m.seat m.step l.2 is (done_now w l.0 moves id kept l.1 h)

  one_maker : (w v : World) (moves : List Move) (i j : ℕ) → Kept w → Plays w (in_order moves) v → MadeBy moves i → MadeBy moves j → i ≡ j
  one_maker w v [] i j kept p g h = absurd g
  one_maker w v (m ∷ moves) i j kept p (inl g) (inl h) = sym g.0 ∙ h.0
  one_maker w v (m ∷ moves) i j kept p (inl g) (inr h) = absurd (not_again w v m moves j kept p g.1 h)
  one_maker w v (m ∷ moves) i j kept p (inr g) (inl h) = absurd (not_again w v m moves i kept p h.1 g)
  one_maker w v (m ∷ moves) i j kept p (inr g) (inr h) = let l = last_played w v (in_order moves) (m.seat, m.step) p in one_maker w l.0 moves i j kept l.1 g h

  made_case : (m : Move) (moves : List Move) (id : ℕ) (at : Seat) (step : Step) (b : Bool) → eqb m.pass id ≡ b → Is step → (Has (steps_by id moves) (at, step) → MadeBy moves id)
      → Has (cond b ((m.seat, m.step) ∷ steps_by id moves) (steps_by id moves)) (at, step) → MadeBy (m ∷ moves) id
  made_case m moves id at step true e is rest (inl f) = inl (eqb-true m.pass id e, subst Is (sym (ap (λ (z : Seat × Step). z.1) f)) is)
  made_case m moves id at step true e is rest (inr h) = inr (rest h)
  made_case m moves id at step false e is rest h = inr (rest h)

  made_by : (moves : List Move) (id : ℕ) (at : Seat) (step : Step) → Is step → Has (steps_by id moves) (at, step) → MadeBy moves id
  made_by [] id at step is h = absurd h
  made_by (m ∷ moves) id at step is h = made_case m moves id at step (eqb m.pass id) refl is (λ g. made_by moves id at step is g) h

  made_once : {M : Type 0} (w v : World) (moves : List Move) (views : List (View M)) (i j : ℕ) (a b : View M) (s t : Step) → Kept w → Plays w (in_order moves) v → Interleaves moves views
      → get_elem? views i ≡ some a → get_elem? views j ≡ some b → Is s → Is t → Has a.made s → Has b.made t → i ≡ j
  made_once w v moves views i j a b s t kept p history at also is too g h =
      let mine : Has (steps_by i moves) (record { 0 = a.seat }, s) = subst (λ (l : List (Seat × Step)). Has l (record { 0 = a.seat }, s)) (sym (history.made i a at)) (has_at_seat a.seat a.made s g) in
      let theirs : Has (steps_by j moves) (record { 0 = b.seat }, t) = subst (λ (l : List (Seat × Step)). Has l (record { 0 = b.seat }, t)) (sym (history.made j b also)) (has_at_seat b.seat b.made t h) in
      one_maker w v moves i j kept p (made_by moves i _ s is mine) (made_by moves j _ t too theirs)

-- a row is taken once
takes_now : (w : World) (seat : Seat) (r : Row) → Kept w → Allowed w seat (Take r) → is_taken (cell_at (after_step w seat (Take r)).table r) ≡ true
takes_now w seat r kept allowed =
    let was = synched_is (cell_at w.table r) allowed.1 in
    ap (λ (o : Option Joined). is_taken (cell_at (with_take w.table r o) r)) (ap synched_of was.1)
    ∙ ap (λ (f : Row → Cell). is_taken (f r)) (cells_taken w r was.0 kept was.1)
    ∙ ap is_taken (put_same (cell_at w.table) r (Taken was.0))

untaken_then : (w : World) (seat : Seat) (r : Row) → Allowed w seat (Take r) → is_taken (cell_at w.table r) ≡ true → ⊥
untaken_then w seat r allowed taken = let was = synched_is (cell_at w.table r) allowed.1 in false≢true (sym (ap is_taken was.1) ∙ taken)

pub taken_once : {M : Type 0} (w v : World) (moves : List Move) (views : List (View M)) (i j : ℕ) (a b : View M) (r : Row) → Kept w → Plays w (in_order moves) v → Interleaves moves views
    → get_elem? views i ≡ some a → get_elem? views j ≡ some b → Has a.made (Take r) → Has b.made (Take r) → i ≡ j
taken_once w v moves views i j a b r kept p history at also g h =
    made_once (λ s. s ≡ Take r) (λ (u : World). is_taken (cell_at u.table r) ≡ true)
    (λ u seat s k allowed is. subst (λ (z : Step). is_taken (cell_at (after_step u seat z).table r) ≡ true) (sym is) (takes_now u seat r k (subst (Allowed u seat) is allowed)))
    (λ u seat s k allowed taken. taken-step u seat s k allowed r taken)
    (λ u seat s allowed is taken. untaken_then u seat r (subst (Allowed u seat) is allowed) taken)
    w v moves views i j a b (Take r) (Take r) kept p history at also refl refl g h

-- a thread is started once
started_on : (c d : Course) → GoesOn c d → c ≢ Unstarted → d ≢ Unstarted
started_on Unstarted d on n e = n refl
started_on (Running start) d (inl is) n e = let bad : Running start ≡ Unstarted = sym is ∙ e in cc
started_on (Running start) d (inr is) n e = let bad : Ended start is.0 ≡ Unstarted = sym is.1 ∙ e in cc
started_on (Ended start sync) d on n e = let bad : Ended start sync ≡ Unstarted = sym on ∙ e in cc

starts_now : (w : World) (seat : Seat) (q : Row) (p : ℕ) → Kept w → Allowed w seat (Start q p) → course_at (after_step w seat (Start q p)).table p ≢ Unstarted
starts_now w seat q p kept allowed e =
    let stamp : ℕ = last_stamp (marks_at w.table) (joined_at w.table) q in
    let bad : Running stamp ≡ Unstarted = sym (course_lived w.table p (Running stamp) kept.sized allowed.1.2 (stamp_in_range w q kept)) ∙ e in
    cc

abbrev StartsIt : ℕ → Step → Type 0
StartsIt p s = (q : Row) × (s ≡ Start q p)

pub started_once : {M : Type 0} (w v : World) (moves : List Move) (views : List (View M)) (i j : ℕ) (a b : View M) (p : ℕ) (q r : Row) → Kept w → Plays w (in_order moves) v → Interleaves moves views
    → get_elem? views i ≡ some a → get_elem? views j ≡ some b → Has a.made (Start q p) → Has b.made (Start r p) → i ≡ j
started_once w v moves views i j a b p q r kept plays history at also g h =
    made_once (StartsIt p) (λ (u : World). course_at u.table p ≢ Unstarted)
    (λ u seat s k allowed is. subst (λ (z : Step). course_at (after_step u seat z).table p ≢ Unstarted) (sym is.1) (starts_now u seat is.0 p k (subst (Allowed u seat) is.1 allowed)))
    (λ u seat s k allowed started. started_on (course_at u.table p) (course_at (after_step u seat s).table p) ((grows-step u seat s k allowed).courses p) started)
    (λ u seat s allowed is started. let now : Allowed u seat (Start is.0 p) = subst (Allowed u seat) is.1 allowed in started now.1.4)
    w v moves views i j a b (Start q p) (Start r p) kept plays history at also (q, refl) (r, refl) g h

-- and ended once
ended_on : (c d : Course) → GoesOn c d → HasEnded c → HasEnded d
ended_on Unstarted d on h = absurd h
ended_on (Running start) d on h = absurd h
ended_on (Ended start sync) d on h = subst HasEnded (sym on) tt

ends_now : (w : World) (seat : Seat) (q : Row) → Kept w → Allowed w seat (Finish q) → HasEnded (course_at (after_step w seat (Finish q)).table q.thread)
ends_now w seat q kept allowed = subst HasEnded (sym (course_lived w.table q.thread (ended_at (course_at w.table q.thread) q.sync) kept.sized (stands_inside w seat q allowed.1.0).0 (end_in_range w seat q kept allowed.1.0))) tt

abbrev EndsIt : ℕ → Step → Type 0
EndsIt t s = (q : Row) × (s ≡ Finish q) × (q.thread ≡ t)

pub ended_once : {M : Type 0} (w v : World) (moves : List Move) (views : List (View M)) (i j : ℕ) (a b : View M) (q r : Row) → Kept w → Plays w (in_order moves) v → Interleaves moves views
    → get_elem? views i ≡ some a → get_elem? views j ≡ some b → Has a.made (Finish q) → Has b.made (Finish r) → q.thread ≡ r.thread → i ≡ j
ended_once w v moves views i j a b q r kept plays history at also g h same =
    made_once (EndsIt r.thread) (λ (u : World). HasEnded (course_at u.table r.thread))
    (λ u seat s k allowed is. subst (λ (z : Step × ℕ). HasEnded (course_at (after_step u seat z.0).table z.1)) (λ n. (sym is.1 n, is.2 n)) (ends_now u seat is.0 k (subst (Allowed u seat) is.1 allowed)))
    (λ u seat s k allowed ended. ended_on (course_at u.table r.thread) (course_at (after_step u seat s).table r.thread) ((grows-step u seat s k allowed).courses r.thread) ended)
    (λ u seat s allowed is ended. let now : Allowed u seat (Finish is.0) = subst (Allowed u seat) is.1 allowed in now.1.1 (subst (λ (t : ℕ). HasEnded (course_at u.table t)) (sym is.2) ended))
    w v moves views i j a b (Finish q) (Finish r) kept plays history at also (q, refl, same) (r, refl, refl) g h

module _ {M : Type 0} where
  -- WHERE NO PASS HAS MADE A STEP, there is no history
  pub view_there : (views : List (View M)) (id : ℕ) → ((v : View M) × (get_elem? views id ≡ some v)) ⊎ (length views ≤ id)
  view_there [] id = inr (omega arith)
  view_there (v ∷ views) zero = inl (v, refl)
  view_there (v ∷ views) (suc id) = ⊎_elim (λ h. inl h) (λ (h : length views ≤ id). inr (omega arith)) (view_there views id)

  pub nothing_yet : (moves : List Move) (views : List (View M)) → Interleaves moves views → ((id : ℕ) (v : View M) → get_elem? views id ≡ some v → v.made ≡ []) → moves ≡ []
  nothing_yet [] views history none = refl
  nothing_yet (m ∷ moves) views history none =
      let by_nobody : steps_by m.pass (m ∷ moves) ≡ [] = ⊎_elim
      (λ (h : (v : View M) × (get_elem? views m.pass ≡ some v)). history.made m.pass h.0 h.1 ∙ ap (at_seat h.0.seat) (none m.pass h.0 h.1))
      (λ (h : length views ≤ m.pass). history.no_others m.pass h)
      (view_there views m.pass) in
      let own : steps_by m.pass (m ∷ moves) ≡ (m.seat, m.step) ∷ steps_by m.pass moves =
      ap (λ (b : Bool). cond b ((m.seat, m.step) ∷ steps_by m.pass moves) (steps_by m.pass moves)) (eq-eqb m.pass m.pass refl) in
      let bad : (m.seat, m.step) ∷ steps_by m.pass moves ≡ [] = sym own ∙ by_nobody in
      cc
