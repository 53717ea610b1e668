-- A thread is started: the rule admits it, and whoever starts it holds its first row.
use Rattle.std.proofs.Common.{◌≡◌, ◌≢◌, ◌<◌, ℕ, true, false, ◌∷◌, length, Option, Some, None, slice_index, sym, refl, ap, ◌∙◌, subst, inl, inr, ⊎_elim, arith, unwrap_or, eqb, length-set}
use Rattle.std.proofs.lemmas.Bool.{cases_Bool, cases_eq}
use Rattle.std.proofs.lemmas.List.{set-get_or}
use mathlib.Core.Option.{some, none}
use lib.ListN.{get_elem?}
use prog.Atomic.{either}
use Rattle.atomic_table.specs.Table.{State, Me, Allows, Act, Valid, step, keeps, stepped, carried_after}
use Rattle.atomic_table.proofs.Lists.{exchanged}
use Rattle.protocol_values.specs.Words.{course_of, course_word, IsCourseInRange}
use Rattle.protocol_values.proofs.WordLemmas.{course_of-course_word, course_word-course_of}
use Rattle.protocol_values.specs.declared.Binding.{Binding}
use Rattle.protocol_values.specs.declared.Cell.TheVariants.{Fresh}
use Rattle.protocol_values.specs.declared.Course.{Course}
use Rattle.protocol_values.specs.declared.Course.TheVariants.{Unstarted, Running}
use Rattle.protocol_values.specs.declared.NackName.{NackName}
use Rattle.protocol_values.specs.declared.Row.{Row}
use Rattle.protocol_values.specs.declared.Seat.{Seat}
use Rattle.protocol_values.specs.declared.Step.TheVariants.{Bind, Start}
use Rattle.protocol_values.specs.Values.{joined_of}
use Rattle.protocol_ledger.specs.Kept.{Kept}
use Rattle.protocol_ledger.specs.Ledgers.{LivesAt}
use Rattle.protocol_ledger.specs.Standing.{Stands}
use Rattle.protocol_ledger.specs.Tables.{Table, binding_at, bound_row, cell_at, course_at, course_place, is_fresh, is_row, is_taken, joined_at, last_stamp, marks_at, start_of}
use Rattle.protocol_ledger.specs.Worlds.{Allowed, World, after_step, begun, first_row, holder_at, last_holder, with_course, with_holders, with_table}
use Rattle.protocol_ledger.proofs.Keeping.{begun_held, begun_other, holder_same, rows_lived, stamp_in_range, threads_lived}
use Rattle.protocol_ledger.proofs.Linking.{cases_Option, some_parts}
use Rattle.protocol_ledger.proofs.Onward.{grows-step}
use Rattle.protocol_ledger.specs.Short.{short_course_place}
use Rattle.protocol_ledger.proofs.Places.{row_from, word_lived}
use Rattle.protocol_ledger.proofs.Short.{short_course}
use Rattle.cell_table.proofs.Shortness.{same_short_course}
use Rattle.protocol_ledger.proofs.Readings.{binding_after_life, carried_after_life, cell_after_life, course_inside, course_lived, course_lived_other}
use Rattle.protocol_ledger.proofs.RowLemmas.{put, put_other, put_same, row_ne}
use Rattle.cell_table.specs.declared.view.Shape.{Shape}
use Rattle.cell_table.specs.declared.view.Stage.TheVariants.{Aside, Left, Resting}
use Rattle.cell_table.specs.declared.view.View.{View}
use Rattle.cell_table.specs.Rule.{IsStarting, IsToBegin, Keeps, Waits}
use Rattle.cell_table.specs.Sight.{Has, HasSeenLast, IsStand, IsUnseen, SawEnded, see_start}
use Rattle.protocol_ledger.specs.Acting.{EndsAt, HasStart}
use Rattle.cell_table.specs.Told.{AgreesLife, course_read, tried_start, turned_to}
use Rattle.cell_table.specs.Views.{Knows, at_stage, behind_last, saw_course, started_thread, stood_at}
use Rattle.cell_table.proofs.Courses.{fresh_is}
use Rattle.cell_table.proofs.Following.{Follows, alive_unseen, hold_more, knows_anew, knows_follows, knows_owned, one_place, some_last, some_seat, stand_ends, stand_place, stands_at}
use Rattle.cell_table.proofs.Housing.{housed_step}
use Rattle.cell_table.proofs.Lives.{agrees_life, saw_begins, saw_stays, wrote_life}
use Rattle.cell_table.proofs.Others.{learn_course}
use Rattle.cell_table.proofs.Seating.{Stays}
use Rattle.cell_table.proofs.Truths.{with_itself, last_known}
use Rattle.cell_table.proofs.Turning.{does_now, keeps_housed, keeps_view, moved_coherent, open_words, world_kept}

-- THE WORLD AFTER A START
module _ (w : World) (seat : Seat) (p stamp : ℕ) (k : Kept w) (below : p < w.table.threads) (range : IsCourseInRange (Running stamp)) (waiting : course_at w.table p ≡ Unstarted) where
  abbrev started_world : World
  started_world = with_holders (with_table w (with_course w.table p (Running stamp))) (begun w.table w.holders seat p)

  -- nobody held a row of the thread, nor stood behind its last one, and none was opened
  pub unheld : (r : Row) → holder_at w r ≢ None → r.thread ≢ p
  unheld r held same = k.begun r held (ap (course_at w.table) same ∙ waiting)

  pub unlast : (t : ℕ) → last_holder w t ≢ None → t ≢ p
  unlast t last same = k.begun_last t last (ap (course_at w.table) same ∙ waiting)

  pub unopened : (r : Row) → is_fresh (cell_at w.table r) ≡ false → r.thread ≢ p
  unopened r opened same = subst (λ (c : Course). LivesAt c r.sync) (ap (course_at w.table) same ∙ waiting) (k.linked.lived r opened)

  not_first : (r : Row) → holder_at w r ≢ None → r ≢ first_row p
  not_first r held e = unheld r held (ap (λ (x : Row). x.thread) e)

  course_here : course_at started_world.table p ≡ Running stamp
  course_here = course_lived w.table p (Running stamp) k.sized below range

  course_else : (q : ℕ) → (q ≡ p → ⊥) → course_at started_world.table q ≡ course_at w.table q
  course_else q other = course_lived_other w.table p q (Running stamp) other

  holder_now : (r : Row) → holder_at started_world r ≡ holder_at (with_holders w (begun w.table w.holders seat p)) r
  holder_now r = holder_same (with_holders w (begun w.table w.holders seat p)) (with_course w.table p (Running stamp)) r (threads_lived w.table p (Running stamp)) (rows_lived w.table p (Running stamp))

  pub follows_start : Follows w started_world
  follows_start = record {
    threads = threads_lived w.table p (Running stamp);
    rows = rows_lived w.table p (Running stamp);
    seats = refl;
    fresh = λ r h. cell_after_life w.table p (Running stamp) r ∙ h;
    opened = λ r h. ap is_fresh (cell_after_life w.table p (Running stamp) r) ∙ h;
    joined = λ r. ap joined_of (cell_after_life w.table p (Running stamp) r);
    taken = λ r h. ap is_taken (cell_after_life w.table p (Running stamp) r) ∙ h;
    claimed = λ r h. cell_after_life w.table p (Running stamp) r ∙ h;
    unclaimed = λ r h. sym (cell_after_life w.table p (Running stamp) r) ∙ h;
    words = λ r q row low high. word_lived w.table p (Running stamp) r q row high;
    held = λ r s h. holder_now r ∙ begun_other w seat p r (row_ne r (first_row p) (not_first r (some_seat w r s h))) below ∙ h;
    bound = λ n b e. ap (λ (f : NackName → Option Binding). f n) (binding_after_life w.table p (Running stamp)) ∙ e;
    carried = λ n. ap (λ (f : NackName → Option ℕ). f n) (carried_after_life w.table p (Running stamp));
    starts = λ q s h. ⊎_elim
        (λ (same : q ≡ p). absurd (subst (λ (c : Course). HasStart c s) (ap (course_at w.table) same ∙ waiting) h))
        (λ (other : q ≡ p → ⊥). subst (λ (c : Course). HasStart c s) (sym (course_else q other)) h)
        (cases_eq q p);
    ends = λ q g h. ⊎_elim
        (λ (same : q ≡ p). absurd (subst (λ (c : Course). EndsAt c g) (ap (course_at w.table) same ∙ waiting) h))
        (λ (other : q ≡ p → ⊥). subst (λ (c : Course). EndsAt c g) (sym (course_else q other)) h)
        (cases_eq q p);
    behind = λ t s h. h;
  }

  pub no_end_start : (t g : ℕ) → EndsAt (course_at started_world.table t) g → EndsAt (course_at w.table t) g
  no_end_start t g h = ⊎_elim
      (λ (same : t ≡ p). absurd (subst (λ (c : Course). EndsAt c g) (ap (course_at started_world.table) same ∙ course_here) h))
      (λ (other : t ≡ p → ⊥). subst (λ (c : Course). EndsAt c g) (course_else t other) h)
      (cases_eq t p)

  -- the first row of the thread, which is held then: it is as at the start
  first_unheld : holder_at w (first_row p) ≡ None
  first_unheld = ⊎_elim
      (λ (none : holder_at w (first_row p) ≡ None). none)
      (λ (some : (n : ℕ) × (holder_at w (first_row p) ≡ Some n)). absurd (unheld (first_row p) (some_seat w (first_row p) some.0 some.1) refl))
      (cases_Option (holder_at w (first_row p)))

  first_fresh : cell_at w.table (first_row p) ≡ Fresh
  first_fresh = ⊎_elim
      (λ (f : is_fresh (cell_at w.table (first_row p)) ≡ true). fresh_is (cell_at w.table (first_row p)) f)
      (λ (o : is_fresh (cell_at w.table (first_row p)) ≡ false). absurd (unopened (first_row p) o refl))
      (cases_Bool (is_fresh (cell_at w.table (first_row p))))

  unbound : (n : NackName) (b : Binding) → binding_at w.table n ≡ Some b → n.thread ≢ p
  unbound n b e = unheld (bound_row n b) (k.bound n b e)

  -- WHO KNOWS WHAT THEN, where the pass with this number owns the first row
  module _ (owner : Row → ℕ) (id : ℕ) (some_rows : 0 < w.table.rows) where
    abbrev owner' : Row → ℕ
    owner' = put owner (first_row p) id

    was_bound : (n : NackName) (b : Binding) → binding_at started_world.table n ≡ Some b → binding_at w.table n ≡ Some b
    was_bound n b e = sym (ap (λ (f : NackName → Option Binding). f n) (binding_after_life w.table p (Running stamp))) ∙ e

    module _ {M : Type 0} where
      owned : (j : ℕ) (u : View M) → Knows w owner j u → Knows w owner' j u
      owned j u knows = knows_owned w owner owner' j u k
          (λ r held o. put_other owner (first_row p) id r (row_ne r (first_row p) (not_first r held)) ∙ o)
          (λ t last o. put_other owner (first_row p) id (behind_last w.table.rows t) (row_ne (behind_last w.table.rows t) (first_row p) (λ e. unlast t last (ap (λ (x : Row). x.thread) e))) ∙ o)
          knows

      pub others_start : (j : ℕ) (u : View M) → Knows w owner j u → Knows started_world owner' j u
      others_start j u knows = knows_follows w started_world owner' j u follows_start no_end_start (λ n b e o. inl (was_bound n b e)) (owned j u knows)

      pub own_start : (v : View M) → v.seat ≡ seat.0 → Knows w owner id v → Knows started_world owner' id (at_stage v.stage (see_start p stamp v.seen) v)
      own_start v at knows =
          hold_more started_world owner' id (saw_course p (Running stamp) v) (first_row p) sees (put_same owner (first_row p) id)
          (holder_now (first_row p) ∙ begun_held w seat p k.seated row ∙ ap Some (sym at))
          (cell_after_life w.table p (Running stamp) (first_row p) ∙ first_fresh)
          (word_lived w.table p (Running stamp) (first_row p) 1 row (omega arith) ∙ k.blank (first_row p) 1 row (omega arith) first_unheld)
          (λ n b e same. unbound n b (was_bound n b e) (ap (λ (x : Row). x.thread) same))
          (λ g e. absurd (subst (λ (c : Course). EndsAt c g) course_here e))
        where
          row : is_row w.table (first_row p) ≡ true
          row = row_from w.table (first_row p) below some_rows

          begun_now : (t s : ℕ) → Has ((p, stamp) ∷ v.seen.started) (t, s) → HasStart (course_at started_world.table t) s
          begun_now t s (inl e) = subst (λ (z : ℕ × ℕ). HasStart (course_at started_world.table z.0) z.1) e (subst (λ (c : Course). HasStart c stamp) (sym course_here) refl)
          begun_now t s (inr h) = follows_start.starts t s (knows.started t s h)

          sees : Knows started_world owner' id (saw_course p (Running stamp) v)
          sees = knows_anew w started_world owner' id v v.seen.bound ((p, stamp) ∷ v.seen.started) v.seen.ended follows_start
              (λ n b h. h) (λ n b h. follows_start.bound n b (knows.bound n b h)) (λ n b e o. inl (was_bound n b e)) begun_now
              (λ t g h. h) (λ t g h. follows_start.ends t g (knows.ended t g h)) (λ r mine place g e. inl (no_end_start r.thread g e)) (owned id v knows)

      pub unseen : (v : View M) → Knows w owner id v → ((r : Row) → Has v.seen.begun r → Has v.seen.held r) → IsUnseen v.seen p
      unseen v knows holds = record {
        held = λ r h. unheld r (some_seat w r v.seat (knows.mine r h).1);
        opened = λ r h. unopened r (knows.opened r h);
        begun = λ r h. unheld r (some_seat w r v.seat (knows.mine r (holds r h)).1);
        lasts = λ h. unlast p (some_last w p v.seat (knows.lasts p h).1) refl;
        bound = λ n b h. unbound n b (knows.bound n b h);
        started = λ s h. subst (λ (c : Course). HasStart c s) waiting (knows.started p s h);
        ended = λ h. subst (λ (c : Course). EndsAt c h.0) waiting (knows.ended p h.0 h.1);
      }

-- WORDS OF LIVES
unstarted_read : course_read (course_word Unstarted) ≡ Unstarted
unstarted_read = ap (λ (o : Option Course). unwrap_or o Unstarted) (course_of-course_word Unstarted tt)

pub course_back : (c : Course) → IsCourseInRange c → course_read (course_word c) ≡ c
course_back c r = ap (λ (o : Option Course). unwrap_or o Unstarted) (course_of-course_word c r)

-- one word stands for one course
pub one_course : (c d : Course) → IsCourseInRange c → IsCourseInRange d → course_word c ≡ course_word d → c ≡ d
one_course c d g h e = sym (course_back c g) ∙ ap course_read e ∙ course_back d h

module _ {M : Type 0} (stands : Stands M) where
  module _ (shape : Shape M) (slots id place : ℕ) (me : Me (Option M) (View M)) (p : ℕ)
      (threads : me.0.threads ≡ shape.threads) (rows : me.0.rows ≡ shape.rows) (wide : me.0.layout ≡ shape.layout) (inside : p < shape.threads) (here : place ≡ short_course_place shape.layout p) where
    pub at_table : 0 < me.0.threads
    at_table = omega (arith, threads, inside)

    pub one_life : (q : ℕ) → (q < me.0.threads) × (place ≡ short_course_place me.0.layout q) → p ≡ q
    one_life q at = same_short_course shape.layout p q (sym here ∙ at.1 ∙ (λ i. short_course_place (wide i) q))

    module _ (s : State (Option M) (View M)) (k : Keeps stands shape s) (view : get_elem? s.views id ≡ some me.0) where
      pub known : Knows k.world k.owner id me.0
      known = k.knows id me.0 view at_table

      pub kept : Kept k.world
      kept = world_kept stands shape s k

      pub its : p < k.world.table.threads
      its = subst (λ (n : ℕ). p < n) (sym (ap (λ (t : Table). t.threads) k.table)) inside

      word_is : slice_index k.world.table.words (course_place k.world.table.rows p) ≡ slice_index s.words place
      word_is = ap (λ (t : Table). slice_index t.words (course_place t.rows p)) k.table ∙ short_course shape.layout shape.rows k.fits shape.threads s.words k.sized p inside ∙ ap (slice_index s.words) (sym here)

      pub course_is : course_at k.world.table p ≡ course_read (slice_index s.words place)
      course_is = course_inside k.world.table p its ∙ ap course_read word_is

      -- a word that is not an unstarted thread's says where the thread is on its course
      begun_there : slice_index s.words place ≢ course_word Unstarted → course_read (slice_index s.words place) ≢ Unstarted
      begun_there other e =
          let o = some_parts (course_of (slice_index k.world.table.words (course_place k.world.table.rows p))) (kept.formed.lives p its) in
          let at : course_of (slice_index s.words place) ≡ Some o.0 = ap course_of (sym word_is) ∙ o.1 in
          let is : o.0 ≡ Unstarted = sym (ap (λ (x : Option Course). unwrap_or x Unstarted) at) ∙ e in
          other ((course_word-course_of (slice_index s.words place) o.0 at).1 ∙ ap course_word is)

      -- where it only learns
      learnt_life : (w : View M) → w.seat ≡ me.0.seat → w.made ≡ me.0.made → w.results ≡ me.0.results → Rattle.cell_table.specs.Rule.beginning w ≡ Rattle.cell_table.specs.Rule.beginning me.0 → Stays me.0 w → ((r : Row) → Rattle.cell_table.specs.Rule.IsToBegin w r → Rattle.cell_table.specs.Rule.IsToBegin me.0 r) → Knows k.world k.owner id w
          → Keeps stands shape (stepped s place (slice_index s.words place) id me.1 w keeps)
      learnt_life w seat made seen first stays begins knows = keeps_view stands shape s k id me.0 w _ view at_table seat made seen first stays begins (set-get_or s.words place 0) knows

      sees_life : Knows k.world k.owner id (saw_course p (course_read (slice_index s.words place)) me.0)
      sees_life = learn_course k.world k.owner id me.0 p (course_read (slice_index s.words place)) known course_is

      -- THE START, from the place to which the pass has turned
      module _ (starting : 0 < length shape.first.value.items → IsStarting stands shape.first.value.items me.0.results me.0.from p) (some_rows : 0 < shape.rows) (resting : me.0.stage ≡ Resting) (other : me.0.from.thread ≢ p) (from : me.0.from.thread < shape.threads)
          (stand : IsStand me.0.rows me.0.seen me.0.from) (going : ¬ SawEnded me.0.seen me.0.from.thread)
          (stamp : ℕ) (last : HasSeenLast me.0.seen me.0.from stamp) (waiting : course_at k.world.table p ≡ Unstarted) where
        abbrev at_seat : Seat
        at_seat = record { 0 = me.0.seat }

        stamp_is : last_stamp (marks_at k.world.table) (joined_at k.world.table) me.0.from ≡ stamp
        stamp_is = last_known k.world k.owner id me.0 known kept me.0.from stamp last

        range : IsCourseInRange (Running stamp)
        range = subst (λ (n : ℕ). IsCourseInRange (Running n)) stamp_is (stamp_in_range k.world me.0.from kept)

        its_from : me.0.from.thread < k.world.table.threads
        its_from = subst (λ (n : ℕ). me.0.from.thread < n) (sym (ap (λ (t : Table). t.threads) k.table)) from

        allowed : Allowed k.world at_seat (Start me.0.from p)
        allowed = (known.seat, (stands_at k.world k.owner id me.0 known me.0.from its_from stand, alive_unseen k.world me.0.seen me.0.from.thread (stand_ends k.world k.owner id me.0 known me.0.from stand) going, its, other, waiting))

        after_is : after_step k.world at_seat (Start me.0.from p) ≡ started_world k.world at_seat p stamp kept its range waiting
        after_is = ap (λ (n : ℕ). with_holders (with_table k.world (with_course k.world.table p (Running n))) (begun k.world.table k.world.holders at_seat p)) stamp_is

        its_rows : 0 < k.world.table.rows
        its_rows = subst (λ (n : ℕ). 0 < n) (sym (ap (λ (t : Table). t.rows) k.table)) some_rows

        rests : me.0.stage ≢ Aside
        rests e = let bad : Resting ≡ Aside = sym resting ∙ e in cc

        stays_on : me.0.stage ≢ Left
        stays_on e = let bad : Resting ≡ Left = sym resting ∙ e in cc

        starts : Keeps stands shape (stepped s place (course_word (Running stamp)) id me.1 (started_thread p stamp me.0) keeps)
        unfolding with_course
        starts =
            keeps_housed stands shape s k id me.0 (at_stage me.0.stage (see_start p stamp me.0.seen) me.0) _ s.homes (owner' k.world at_seat p stamp kept its range waiting k.owner id its_rows) view at_table refl refl refl
            (Start me.0.from p) (λ some_first. (does_now stands shape s k id me.0 (after_step k.world at_seat (Start me.0.from p)).table me.0.from (λ value earlier. stands.starts shape.first.value.items value me.0.from.thread earlier p) view (grows-step k.world at_seat (Start me.0.from p) kept allowed) (starting some_first), tt)) tt allowed
            (record { same = (refl, refl, refl); acted = rests; goes = stays_on; acts = rests; held = λ q h. inr h; begun = λ q h. h; binds = λ n q scope e. let bad : Start me.0.from p ≡ Bind n q scope = e in cc }) (λ t rs h. inl h)
            (ap (λ (v : World). v.table) after_is ∙ ap (λ (t : Table). with_course t p (Running stamp)) k.table ∙ wrote_life stands shape s k place p (course_word (Running stamp)) inside here)
            (length-set s.words place (course_word (Running stamp)))
            (λ j u n e t. subst (λ (v : World). Knows v (owner' k.world at_seat p stamp kept its range waiting k.owner id its_rows) j u) (sym after_is) (others_start k.world at_seat p stamp kept its range waiting k.owner id its_rows j u (k.knows j u e t)))
            (subst (λ (v : World). Knows v (owner' k.world at_seat p stamp kept its range waiting k.owner id its_rows) id (at_stage me.0.stage (see_start p stamp me.0.seen) me.0)) (sym after_is) (own_start k.world at_seat p stamp kept its range waiting k.owner id its_rows me.0 refl known))
            (λ some_first. housed_step stands shape.first.value.items k.world at_seat (Start me.0.from p) s.homes s.views id (started_thread p stamp me.0) kept allowed tt (to_begin some_first) (k.housed some_first))
          where
            -- what stood for the thread at first waits, as does that with which the pass was to begin before
            to_begin : (some_first : 0 < length shape.first.value.items) (r : Row) → IsToBegin (started_thread p stamp me.0) r → Waits shape.first.value.items k.world s.homes r
            to_begin some_first r (zero, which, unbegun) = ⊎_elim
                (λ held. ⊎_elim
                (λ (e : first_row p ≡ r). subst (Waits shape.first.value.items k.world s.homes) e ((k.housed some_first).asleep p its waiting))
                (λ old. (k.housed some_first).waiting id me.0 r view at_table (zero, inl old, unbegun))
                held)
                (λ deals. (k.housed some_first).waiting id me.0 r view at_table (zero, inr deals, unbegun))
                which

        nothing_seen : IsUnseen me.0.seen p
        nothing_seen = unseen k.world at_seat p stamp kept its range waiting k.owner id its_rows me.0 known (λ r h. k.seated.begun id me.0 r view h)

    pub start_allowed : (0 < length shape.first.value.items → IsStarting stands shape.first.value.items me.0.results me.0.from p) → 0 < shape.rows → me.0.stage ≡ Resting → me.0.from.thread ≢ p → me.0.from.thread < shape.threads → IsStand me.0.rows me.0.seen me.0.from → ¬ SawEnded me.0.seen me.0.from.thread → (stamp : ℕ) → HasSeenLast me.0.seen me.0.from stamp → IsCourseInRange (Running stamp)
        → Allows (Keeps stands shape) slots id me place (λ n. either (eqb n (course_word Unstarted)) (course_word (Running stamp)) n) (tried_start (step slots place (course_word Unstarted) (course_word (Running stamp)) none) me)
    start_allowed starting some_rows resting other from stand going stamp last in_range s k homes view in_words =
        exchanged n (course_word Unstarted) (course_word (Running stamp))
        (λ y. (w : View M) × (a : Act (Option M)) × Valid s.homes me.1 a × Keeps stands shape (stepped s place y id me.1 w a) × tried_start (step slots place (course_word Unstarted) (course_word (Running stamp)) none) me n (w, carried_after me.1 a))
        (λ e.
        let waiting : course_at k.world.table p ≡ Unstarted = course_is s k view ∙ ap course_read e ∙ unstarted_read in
        let moved = starts s k view starting some_rows resting other from stand going stamp last waiting in (
          started_thread p stamp me.0,
          keeps,
          tt,
          moved,
          λ q given at given_range second. (
            λ f. let same = one_life q at in
                let stamps : stamp ≡ given = ap start_of (one_course (Running stamp) (Running given) in_range given_range second) in (
                  (λ z. (started_thread (same z) (stamps z) me.0, me.1)),
                  subst (IsUnseen me.0.seen) same (nothing_seen s k view starting some_rows resting other from stand going stamp last waiting),
                ),
            λ f. absurd (f e),
            moved_coherent stands shape s.views _ _ id me.0 (started_thread p stamp me.0) view refl at_table moved,
          ),
        ))
        (λ f.
        let c = course_read n in
        let moved = learnt_life s k view (saw_course p c me.0) refl refl refl refl (saw_stays p c me.0) (λ r h. saw_begins p c me.0 r h) (sees_life s k view) in (
          saw_course p c me.0,
          keeps,
          tt,
          moved,
          λ q given at given_range second. (
            λ e. absurd (f e),
            λ g. (
              ap (λ (x : ℕ). (saw_course x c me.0, me.1)) (one_life q at),
              begun_there s k view f,
              subst (λ (z : ℕ × Course). AgreesLife me.0 z.0 z.1) (λ i. (one_life q at i, course_is s k view i)) (agrees_life k.world k.owner id me.0 (known s k view) (kept s k view) p),
            ),
            moved_coherent stands shape s.views _ _ id me.0 (saw_course p c me.0) view refl at_table moved,
          ),
        ))
      where
        n : ℕ
        n = slice_index s.words place

  -- THE TURN to a place
  module _ (shape : Shape M) (slots id place : ℕ) (me : Me (Option M) (View M)) (r : Row)
      (threads : me.0.threads ≡ shape.threads) (rows : me.0.rows ≡ shape.rows) (wide : me.0.layout ≡ shape.layout) (inside : r.thread < shape.threads) (here : place ≡ short_course_place shape.layout r.thread) (stand : IsStand me.0.rows me.0.seen r) where
    pub stand_allowed : Allows (Keeps stands shape) slots id me place (λ n. n) (turned_to (step slots place 0 0 none) me)
    stand_allowed s k homes view in_words =
        let c = course_read (slice_index s.words place) in
        let kept_now = world_kept stands shape s k in
        let knows = known shape slots id place me r.thread threads rows wide inside here s k view in
        let sees = sees_life shape slots id place me r.thread threads rows wide inside here s k view in
        let read = course_is shape slots id place me r.thread threads rows wide inside here s k view in (
          stood_at r (saw_course r.thread c me.0),
          keeps,
          tt,
          learnt_life shape slots id place me r.thread threads rows wide inside here s k view (stood_at r (saw_course r.thread c me.0)) refl refl refl refl (saw_stays r.thread c me.0) (λ q h. saw_begins r.thread c me.0 q h) sees,
          λ q at also.
              let same : r.thread ≡ q.thread = one_life shape slots id place me r.thread threads rows wide inside here q.thread at in
              let one : r ≡ q = one_place k.world r q kept_now same (stand_place k.world k.owner id me.0 knows r stand) (stand_place k.world k.owner id me.0 knows q also) in (
                ap (λ (z : Row). (stood_at z (saw_course z.thread c me.0), me.1)) one,
                subst (λ (z : ℕ × Course). AgreesLife me.0 z.0 z.1) (λ i. (same i, read i)) (agrees_life k.world k.owner id me.0 knows kept_now r.thread),
                with_itself k.world k.owner id (saw_course r.thread c me.0) sees kept_now (open_words stands shape s k wide),
              ),
        )
