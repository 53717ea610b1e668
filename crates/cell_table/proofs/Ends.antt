-- A thread is ended at a place of it: the rule admits it, and whoever stands there has seen it.
use Rattle.cell_table.proofs.Lives.{wrote_life}
use Rattle.std.proofs.Common.{◌≡◌, ◌≢◌, ◌<◌, ℕ, ◌∷◌, length, Option, Some, sym, refl, ap, ◌∙◌, subst, inl, inr, ⊎_elim, length-set}
use Rattle.std.proofs.lemmas.Bool.{cases_eq}
use mathlib.Core.Option.{some, none}
use lib.ListN.{get_elem?}
use Rattle.atomic_table.specs.Table.{State, Me, Allows, step, keeps, stepped}
use Rattle.protocol_values.specs.Words.{course_word, IsCourseInRange}
use Rattle.protocol_values.specs.declared.Binding.{Binding}
use Rattle.protocol_values.specs.declared.Course.{Course}
use Rattle.protocol_values.specs.declared.Course.TheVariants.{Unstarted, Running, Ended}
use Rattle.protocol_values.specs.declared.NackName.{NackName}
use Rattle.protocol_values.specs.declared.Row.{Row}
use Rattle.protocol_values.specs.declared.Seat.{Seat}
use Rattle.protocol_values.specs.declared.Step.TheVariants.{Bind, Finish}
use Rattle.protocol_values.specs.Values.{joined_of}
use Rattle.protocol_ledger.specs.Kept.{Kept}
use Rattle.protocol_ledger.specs.Standing.{Stands}
use Rattle.protocol_ledger.specs.Short.{short_course_place}
use Rattle.protocol_ledger.specs.Tables.{Table, binding_at, course_at, is_fresh, is_taken, start_of}
use Rattle.protocol_ledger.specs.Worlds.{Allowed, World, after_step, ended_at, with_course, with_table}
use Rattle.protocol_ledger.proofs.Keeping.{holder_same, rows_lived, threads_lived}
use Rattle.protocol_ledger.proofs.Places.{word_lived}
use Rattle.protocol_ledger.proofs.Readings.{binding_after_life, carried_after_life, cell_after_life, course_lived, course_lived_other}
use Rattle.protocol_ledger.proofs.RowLemmas.{same_row}
use Rattle.cell_table.specs.declared.view.Shape.{Shape}
use Rattle.cell_table.specs.declared.view.Stage.TheVariants.{Aside, Left, Resting}
use Rattle.cell_table.specs.declared.view.View.{View}
use Rattle.cell_table.specs.Rule.{IsFinishing, Keeps}
use Rattle.cell_table.specs.Sight.{Has, IsStand, SawEnded}
use Rattle.protocol_ledger.specs.Acting.{EndsAt, HasStart}
use Rattle.cell_table.specs.Told.{finished}
use Rattle.cell_table.specs.Views.{Knows, ended_thread, saw_course}
use Rattle.protocol_ledger.proofs.Onward.{grows-step}
use Rattle.cell_table.proofs.Housing.{housed_step}
use Rattle.cell_table.proofs.Following.{Follows, IsPlace, alive_unseen, knows_anew, one_place, stand_ends, stand_owned, stand_place, stands_at}
use Rattle.cell_table.proofs.Starts.{at_table, known, kept, its, one_course, one_life}
use Rattle.cell_table.proofs.Turning.{does_now, keeps_housed, moved_coherent}

-- a thread that has started, and has not ended, runs
runs : (c : Course) (start : ℕ) → HasStart c start → ((g : ℕ) → EndsAt c g → ⊥) → c ≡ Running start
runs Unstarted start h alive = absurd h
runs (Running s) start h alive = ap Running h
runs (Ended s g) start h alive = absurd (alive g refl)

-- THE WORLD AFTER AN END
module _ (w : World) (x : Row) (start : ℕ) (k : Kept w) (below : x.thread < w.table.threads) (range : IsCourseInRange (Ended start x.sync)) (running : course_at w.table x.thread ≡ Running start) where
  abbrev ended_world : World
  ended_world = with_table w (with_course w.table x.thread (Ended start x.sync))

  course_here : course_at ended_world.table x.thread ≡ Ended start x.sync
  course_here = course_lived w.table x.thread (Ended start x.sync) k.sized below range

  course_else : (q : ℕ) → (q ≡ x.thread → ⊥) → course_at ended_world.table q ≡ course_at w.table q
  course_else q other = course_lived_other w.table x.thread q (Ended start x.sync) other

  pub follows_end : Follows w ended_world
  follows_end = record {
    threads = threads_lived w.table x.thread (Ended start x.sync);
    rows = rows_lived w.table x.thread (Ended start x.sync);
    seats = refl;
    fresh = λ r h. cell_after_life w.table x.thread (Ended start x.sync) r ∙ h;
    opened = λ r h. ap is_fresh (cell_after_life w.table x.thread (Ended start x.sync) r) ∙ h;
    joined = λ r. ap joined_of (cell_after_life w.table x.thread (Ended start x.sync) r);
    taken = λ r h. ap is_taken (cell_after_life w.table x.thread (Ended start x.sync) r) ∙ h;
    claimed = λ r h. cell_after_life w.table x.thread (Ended start x.sync) r ∙ h;
    unclaimed = λ r h. sym (cell_after_life w.table x.thread (Ended start x.sync) r) ∙ h;
    words = λ r q row low high. word_lived w.table x.thread (Ended start x.sync) r q row high;
    held = λ r s h. holder_same w (with_course w.table x.thread (Ended start x.sync)) r (threads_lived w.table x.thread (Ended start x.sync)) (rows_lived w.table x.thread (Ended start x.sync)) ∙ h;
    bound = λ n b e. ap (λ (f : NackName → Option Binding). f n) (binding_after_life w.table x.thread (Ended start x.sync)) ∙ e;
    carried = λ n. ap (λ (f : NackName → Option ℕ). f n) (carried_after_life w.table x.thread (Ended start x.sync));
    starts = λ q s h. ⊎_elim
        (λ (same : q ≡ x.thread).
        let is : start ≡ s = subst (λ (c : Course). HasStart c s) (ap (course_at w.table) same ∙ running) h in
        subst (λ (c : Course). HasStart c s) (sym (ap (course_at ended_world.table) same ∙ course_here)) is)
        (λ (other : q ≡ x.thread → ⊥). subst (λ (c : Course). HasStart c s) (sym (course_else q other)) h)
        (cases_eq q x.thread);
    ends = λ q g h. ⊎_elim
        (λ (same : q ≡ x.thread). absurd (subst (λ (c : Course). EndsAt c g) (ap (course_at w.table) same ∙ running) h))
        (λ (other : q ≡ x.thread → ⊥). subst (λ (c : Course). EndsAt c g) (sym (course_else q other)) h)
        (cases_eq q x.thread);
    behind = λ t s h. h;
  }

  was_bound : (n : NackName) (b : Binding) → binding_at ended_world.table n ≡ Some b → binding_at w.table n ≡ Some b
  was_bound n b e = sym (ap (λ (f : NackName → Option Binding). f n) (binding_after_life w.table x.thread (Ended start x.sync))) ∙ e

  -- another thread's end is none of this step
  end_else : (t g : ℕ) → (t ≡ x.thread → ⊥) → EndsAt (course_at ended_world.table t) g → EndsAt (course_at w.table t) g
  end_else t g other h = subst (λ (c : Course). EndsAt c g) (course_else t other) h

  end_here : (t g : ℕ) → t ≡ x.thread → EndsAt (course_at ended_world.table t) g → x.sync ≡ g
  end_here t g same h = subst (λ (c : Course). EndsAt c g) (ap (course_at ended_world.table) same ∙ course_here) h

  -- WHO KNOWS WHAT THEN, where the pass with this number stands at the place
  module _ (owner : Row → ℕ) (id : ℕ) (mine : owner x ≡ id) (place : IsPlace w x) where
    module _ {M : Type 0} where
      pub others_end : (j : ℕ) (u : View M) → j ≢ id → Knows w owner j u → Knows ended_world owner j u
      others_end j u n knows = knows_anew w ended_world owner j u u.seen.bound u.seen.started u.seen.ended follows_end
          (λ m b h. h) (λ m b h. follows_end.bound m b (knows.bound m b h)) (λ m b e o. inl (was_bound m b e)) (λ t s h. follows_end.starts t s (knows.started t s h))
          (λ t g h. h) (λ t g h. follows_end.ends t g (knows.ended t g h)) (λ r his there g e. ⊎_elim
          (λ (same : r.thread ≡ x.thread). absurd (n (sym his ∙ ap owner (one_place w r x k same there place) ∙ mine)))
          (λ (other : r.thread ≡ x.thread → ⊥). inl (end_else r.thread g other e))
          (cases_eq r.thread x.thread)) knows

      pub own_end : (v : View M) → Knows w owner id v → Knows ended_world owner id (saw_course x.thread (Ended start x.sync) v)
      own_end v knows = knows_anew w ended_world owner id v v.seen.bound ((x.thread, start) ∷ v.seen.started) ((x.thread, x.sync) ∷ v.seen.ended) follows_end
          (λ m b h. h) (λ m b h. follows_end.bound m b (knows.bound m b h)) (λ m b e o. inl (was_bound m b e)) begun_now
          (λ t g h. inr h) over_now (λ r his there g e. ⊎_elim
          (λ (same : r.thread ≡ x.thread). inr (inl (λ i. (sym same i, end_here r.thread g same e i))))
          (λ (other : r.thread ≡ x.thread → ⊥). inl (end_else r.thread g other e))
          (cases_eq r.thread x.thread)) knows
        where
          begun_now : (t s : ℕ) → Has ((x.thread, start) ∷ v.seen.started) (t, s) → HasStart (course_at ended_world.table t) s
          begun_now t s (inl e) = subst (λ (z : ℕ × ℕ). HasStart (course_at ended_world.table z.0) z.1) e (subst (λ (c : Course). HasStart c start) (sym course_here) refl)
          begun_now t s (inr h) = follows_end.starts t s (knows.started t s h)

          over_now : (t g : ℕ) → Has ((x.thread, x.sync) ∷ v.seen.ended) (t, g) → EndsAt (course_at ended_world.table t) g
          over_now t g (inl e) = subst (λ (z : ℕ × ℕ). EndsAt (course_at ended_world.table z.0) z.1) e (subst (λ (c : Course). EndsAt c x.sync) (sym course_here) refl)
          over_now t g (inr h) = follows_end.ends t g (knows.ended t g h)

-- where it has ended
abbrev sync_of_end : Course → ℕ
sync_of_end Unstarted = 0
sync_of_end (Running start) = 0
sync_of_end (Ended start sync) = sync

module _ {M : Type 0} (stands : Stands M) where
  module _ (shape : Shape M) (slots id place : ℕ) (me : Me (Option M) (View M)) (x : Row)
      (threads : me.0.threads ≡ shape.threads) (rows : me.0.rows ≡ shape.rows) (wide : me.0.layout ≡ shape.layout) (inside : x.thread < shape.threads) (here : place ≡ short_course_place shape.layout x.thread)
      (finishing : 0 < length shape.first.value.items → IsFinishing stands shape.first.value.items me.0.results x) (resting : me.0.stage ≡ Resting) (stand : IsStand me.0.rows me.0.seen x) (going : ¬ SawEnded me.0.seen x.thread)
      (start : ℕ) (begun : Has me.0.seen.started (x.thread, start)) (range : IsCourseInRange (Ended start x.sync)) where
    module _ (s : State (Option M) (View M)) (k : Keeps stands shape s) (view : get_elem? s.views id ≡ some me.0) where
      knows : Knows k.world k.owner id me.0
      knows = known stands shape slots id place me x.thread threads rows wide inside here s k view

      kept_now : Kept k.world
      kept_now = kept stands shape slots id place me x.thread threads rows wide inside here s k view

      its_thread : x.thread < k.world.table.threads
      its_thread = its stands shape slots id place me x.thread threads rows wide inside here s k view

      abbrev at_seat : Seat
      at_seat = record { 0 = me.0.seat }

      alive : (g : ℕ) → EndsAt (course_at k.world.table x.thread) g → ⊥
      alive g e = going (g, stand_ends k.world k.owner id me.0 knows x stand g e)

      running : course_at k.world.table x.thread ≡ Running start
      running = runs (course_at k.world.table x.thread) start (knows.started x.thread start begun) alive

      allowed : Allowed k.world at_seat (Finish x)
      allowed = (knows.seat, (stands_at k.world k.owner id me.0 knows x its_thread stand, alive_unseen k.world me.0.seen x.thread (stand_ends k.world k.owner id me.0 knows x stand) going))

      after_is : after_step k.world at_seat (Finish x) ≡ ended_world k.world x start kept_now its_thread range running
      after_is = ap (λ (c : Course). with_table k.world (with_course k.world.table x.thread (ended_at c x.sync))) running

      rests : me.0.stage ≢ Aside
      rests e = let bad : Resting ≡ Aside = sym resting ∙ e in cc

      stays_on : me.0.stage ≢ Left
      stays_on e = let bad : Resting ≡ Left = sym resting ∙ e in cc

      ends_so : Keeps stands shape (stepped s place (course_word (Ended start x.sync)) id me.1 (ended_thread x start me.0) keeps)
      unfolding with_course
      ends_so =
          keeps_housed stands shape s k id me.0 (saw_course x.thread (Ended start x.sync) me.0) _ s.homes k.owner view (at_table stands shape slots id place me x.thread threads rows wide inside here) refl refl refl
          (Finish x) (λ some_first. (tt, does_now stands shape s k id me.0 (after_step k.world at_seat (Finish x)).table x (λ value earlier. stands.ends shape.first.value.items value x.thread earlier) view (grows-step k.world at_seat (Finish x) kept_now allowed) (finishing some_first))) tt allowed
          (record { same = (refl, refl, refl); acted = rests; goes = stays_on; acts = rests; held = λ q h. h; begun = λ q h. h; binds = λ n q scope e. let bad : Finish x ≡ Bind n q scope = e in cc }) (λ t rs h. inl h)
          (ap (λ (v : World). v.table) after_is ∙ ap (λ (t : Table). with_course t x.thread (Ended start x.sync)) k.table ∙ wrote_life stands shape s k place x.thread (course_word (Ended start x.sync)) inside here)
          (length-set s.words place (course_word (Ended start x.sync)))
          (λ j u n e t. subst (λ (v : World). Knows v k.owner j u) (sym after_is) (others_end k.world x start kept_now its_thread range running k.owner id (stand_owned k.world k.owner id me.0 knows x stand) (stand_place k.world k.owner id me.0 knows x stand) j u n (k.knows j u e t)))
          (subst (λ (v : World). Knows v k.owner id (saw_course x.thread (Ended start x.sync) me.0)) (sym after_is) (own_end k.world x start kept_now its_thread range running k.owner id (stand_owned k.world k.owner id me.0 knows x stand) (stand_place k.world k.owner id me.0 knows x stand) me.0 knows))
          (λ some_first. housed_step stands shape.first.value.items k.world at_seat (Finish x) s.homes s.views id (ended_thread x start me.0) kept_now allowed tt (λ q b. (k.housed some_first).waiting id me.0 q view (at_table stands shape slots id place me x.thread threads rows wide inside here) b) (k.housed some_first))

    pub finish_allowed : Allows (Keeps stands shape) slots id me place (λ n. course_word (Ended start x.sync)) (λ n. finished (step slots place (course_word (Ended start x.sync)) 0 none) me (course_word (Ended start x.sync)))
    finish_allowed s k homes view in_words =
        let moved = ends_so s k view in (
          ended_thread x start me.0,
          keeps,
          tt,
          moved,
          λ r first at given_range same_word.
              let thread : x.thread ≡ r.thread = one_life stands shape slots id place me x.thread threads rows wide inside here r.thread at in
              let course : Ended start x.sync ≡ Ended first r.sync = one_course (Ended start x.sync) (Ended first r.sync) range given_range same_word in
              let starts : start ≡ first = ap start_of course in
              let row : x ≡ r = same_row x r thread (ap sync_of_end course) in (
                (λ i. (ended_thread (row i) (starts i) me.0, me.1)),
                moved_coherent stands shape s.views _ _ id me.0 (ended_thread x start me.0) view refl (at_table stands shape slots id place me x.thread threads rows wide inside here) moved,
              ),
        )
