-- Each atomic step is admitted by the rule.
use Rattle.std.proofs.Common.{inl, inr, ◌∷◌, ◌++◌, cond, ◌+◌, slice_index, slice_set, slice_get, length, ◌%◌, ◌⊎◌, ◌≡◌, ◌≢◌, ℕ, ◌<◌, ◌≤◌, true, false, List, [], sym, refl, ap, ◌∙◌, subst, ⊎_elim, arith, unwrap_or, Option, Some, None, is_some, eqb, Bool, ltb, length-set}
use Rattle.std.proofs.lemmas.List.{set-get_or}
use Rattle.std.proofs.lemmas.Bool.{false≢true, ltb-false, ltb-true}
use mathlib.Core.Option.{Option as Maybe, some, none}
use lib.ListN.{get_elem?}
use prog.Atomic.{either}
use Rattle.atomic_table.specs.Table.{State, Me, Allows, Act, Valid, gives, step, keeps, put_back, rest, stepped, carried_after, takes as takes_it}
use Rattle.atomic_table.proofs.Lists.{exchanged}
use Rattle.protocol_values.specs.Words.{cell_word, cell_of, is_word_for, IsCellInRange, IsJoinedInRange, count_of}
use Rattle.protocol_values.proofs.WordLemmas.{cell_is_word, cell_of-cell_word, cell_word-cell_of}
use Rattle.protocol_values.specs.declared.Seat.{Seat as StepSeat}
use Rattle.atomic_table.specs.declared.shared.Seat.{Seat}
use Rattle.protocol_values.specs.declared.Course.TheVariants.{Unstarted}
use Rattle.cell_table.specs.declared.board.Board.{Board}
use Rattle.cell_table.specs.Seats.{Sits}
use Rattle.protocol_values.specs.declared.Step.{Step}
use Rattle.protocol_values.specs.declared.Step.TheVariants.{Bind, Draft, Open, Claim, Yield, Join, Seal, Grant, Take}
use Rattle.protocol_values.specs.declared.Row.{Row}
use Rattle.protocol_values.specs.declared.Joined.{Joined}
use Rattle.protocol_values.specs.declared.Message.{Message}
use Rattle.protocol_values.specs.declared.Cell.{Cell}
use Rattle.protocol_values.specs.declared.Cell.TheVariants.{Fresh, Waiting, Claimed, Synched, Taken}
use Rattle.protocol_ledger.specs.Short.{row_len, short_place, wide_table, widen}
use Rattle.protocol_ledger.specs.Tables.{Table, is_row, is_fresh, cell_at, joined_at, names, is_partner, word_at, row_eq, synched_of, is_taken, course_at}
use Rattle.protocol_values.specs.Values.{joined_of, next_row}
use Rattle.protocol_ledger.specs.Openings.{Opening, greatest}
use Rattle.protocol_ledger.specs.Worlds.{World, Condition, after_step, namer_at, joined_with, mirrored, with_seal, with_table, with_cell, with_word, holder_at, with_take, Allowed, IsAlive, first_row, last_holder}
use Rattle.protocol_ledger.specs.Kept.{Kept}
use Rattle.protocol_ledger.proofs.RowLemmas.{row_ne, row_cases, row_eq-refl, same_row, put, put_other, put_same}
use Rattle.protocol_ledger.proofs.Naming.{namer_none, namer_is}
use Rattle.protocol_ledger.proofs.Places.{row_from, row_inside}
use Rattle.protocol_ledger.proofs.Readings.{cell_inside, row_of_open}
use Rattle.protocol_ledger.proofs.Linking.{fresh_not_joined, some_inj, cases_Option}
use Rattle.protocol_ledger.proofs.Keeping.{kept_step, idle_unnamed, join_in_range, grant_in_range, waits_unjoined, IsSealing, sealed_is, seal_in_range, is_held}
use Rattle.cell_table.specs.declared.view.View.{View}
use Rattle.cell_table.specs.declared.view.Shape.{Shape}
use Rattle.cell_table.specs.declared.view.Stage.{Stage}
use Rattle.cell_table.specs.declared.view.Stage.TheVariants.{Resting, Claims, Joins, Aside, Left}
use Rattle.cell_table.specs.declared.view.Seen.{Seen}
use Rattle.cell_table.specs.Sight.{OpenHaveWords, AreSettled, Has, CanJoin, Coherent, IsResult, IsStand, SawEnded, see_cell, see_held}
use Rattle.protocol_ledger.specs.Standing.{AreResults, IsLeft, Result, Stands}
use Rattle.protocol_ledger.specs.Ledgers.{joined_in as ledger_joined, ledger_of}
use Rattle.protocol_ledger.proofs.LedgerLemmas.{joined_in_ledger, lawful_ledger}
use Rattle.protocol_ledger.proofs.Onward.{grows-step}
use Rattle.protocol_ledger.proofs.Results.{joined-results}
use Rattle.protocol_ledger.proofs.Standing.{results-stay}
use Rattle.cell_table.specs.Nacks.{CanGrant}
use Rattle.cell_table.proofs.Following.{knows_follows, knows_owned, hold_more, stand_behind, taken_world, not_held, not_last, no_end_taken, goes_on, last_held_now, next_unopened, follows_taken, bindings_after, next_unbound, taken_at, next_held, alive_unseen, stand_ends}
use Rattle.cell_table.specs.Views.{Knows, RunsIn, SeesEnd, Staged, opening_by, opening_in, IsClaimer, behind_last, at_stage, did, took, took_with, saw, read_word, drafted_word, turned, word_drafted}
use Rattle.cell_table.proofs.Truths.{offers_known, joined_known, granted_known, agrees, with_itself}
use Rattle.cell_table.specs.Rule.{Housed, IsHome, IsReady, IsToBegin, Keeps, beginning}
use Rattle.protocol_ledger.specs.declared.layout.Layout.{Layout}
use Rattle.cell_table.specs.Told.{Agrees, AgreesWithItself, ComesOut, GoesHome, Inside, At, began, has_begun, cell_read, looked, has_read, glanced, drafted, opened, yielded, claimed, joined, granted, settled, taken, sealed}
use Rattle.cell_table.proofs.Others.{knows_begun, learn_cell, learn_word, others_cell, own_cell, cell_now, cell_else, others_draft, own_draft}
use Rattle.cell_table.proofs.Courses.{KeepsLives}
use Rattle.cell_table.proofs.Seating.{MovesOn, Stays, saw_stays}
use Rattle.cell_table.proofs.Turning.{keeps_housed, keeps_seen, keeps_step, keeps_view, missing_words, moved_coherent, open_words, world_kept}
use Rattle.protocol_ledger.proofs.Short.{set_word, short_word}
use Rattle.cell_table.proofs.Counts.{DraftsFew}
use Rattle.cell_table.proofs.Shortness.{same_short}
use Rattle.cell_table.proofs.Housing.{LeavesHomes, first_out, housed_begin, housed_open, housed_take, some_or_none, took_begins, took_begun, took_holds, value_out}
use Rattle.cell_table.proofs.Standing.{comes_out, goes_home, sees_last}

-- the table with these words
abbrev pub sized : {M : Type 0} → Shape M → List ℕ → Table
sized shape ws = wide_table shape.layout (record { threads = shape.threads; rows = shape.rows; words = ws; opening = greatest (opening_in shape) })

-- the word of a Waiting cell reads as one
waiting_read : cell_read (cell_word Waiting) ≡ Waiting
waiting_read = ap (λ (o : Option Cell). unwrap_or o Fresh) (cell_of-cell_word Waiting tt)

abbrev joined_in : Option Cell → Option Joined
joined_in None = None
joined_in (Some c) = joined_of c

-- one word stands for one commit
one_joined : (i j : Joined) → IsJoinedInRange i → IsJoinedInRange j → cell_word (Synched i) ≡ cell_word (Synched j) → i ≡ j
one_joined i j a b e =
    let both : Some (Synched i) ≡ Some (Synched j) = sym (cell_of-cell_word (Synched i) a) ∙ ap cell_of e ∙ cell_of-cell_word (Synched j) b in
    some_inj i j (ap joined_in both)

one_taken : (i j : Joined) → IsJoinedInRange i → IsJoinedInRange j → cell_word (Taken i) ≡ cell_word (Taken j) → i ≡ j
one_taken i j a b e =
    let both : Some (Taken i) ≡ Some (Taken j) = sym (cell_of-cell_word (Taken i) a) ∙ ap cell_of e ∙ cell_of-cell_word (Taken j) b in
    some_inj i j (ap joined_in both)

module _ {M : Type 0} (stands : Stands M) where
  -- a pass that finds a cell sees it, and it agrees with what it had seen
  seen_there : (w : World) (owner : Row → ℕ) (id : ℕ) (me : Me (Option M) (View M)) (r q : Row) (c : Cell) → Kept w → Knows w owner id me.0 → cell_at w.table r ≡ c → r ≡ q
      → (◌≡◌ {A = Me (Option M) (View M)} (saw r c me.0, me.1) (saw q c me.0, me.1)) × Agrees me.0 q c
  seen_there w owner id me r q c kept k e same =
      (ap (λ (z : Row). (saw z c me.0, me.1)) same, subst (λ (z : Row). Agrees me.0 z c) same (agrees w owner id me.0 k kept r c e))

  -- A pass that makes a step on a word of row r
  module _ (shape : Shape M) (id place : ℕ) (me : Me (Option M) (View M)) (r : Row) (p : ℕ)
      (threads : me.0.threads ≡ shape.threads) (rows : me.0.rows ≡ shape.rows) (wide : me.0.layout ≡ shape.layout)
      (inside : Inside shape.threads shape.rows shape.layout r) (low : p < row_len shape.layout.offers) (here : place ≡ short_place shape.layout r p) where
    at_table : 0 < me.0.threads
    at_table = let i = inside.0 in omega arith

    one_word : (q : Row) (o : ℕ) → o < row_len me.0.layout.offers → Inside me.0.threads me.0.rows me.0.layout q → place ≡ short_place me.0.layout q o → (r ≡ q) × (p ≡ o)
    one_word q o h i e =
        same_short shape.layout shape.threads shape.rows r q p o inside (subst (λ (z : ℕ × ℕ × Layout). Inside z.0 z.1 z.2 q) (λ j. (threads j, rows j, wide j)) i) low (subst (λ (y : Layout). o < row_len y.offers) wide h)
        (sym here ∙ e ∙ (λ j. short_place (wide j) q o))

    abbrev IsUnended : Type 0
    IsUnended = ¬ SawEnded me.0.seen r.thread

    module _ (s : State (Option M) (View M)) (k : Keeps stands shape s) (view : get_elem? s.views id ≡ some me.0) where
      known : Knows k.world k.owner id me.0
      known = k.knows id me.0 view at_table

      kept : Kept k.world
      kept = world_kept stands shape s k

      abbrev seat : StepSeat
      seat = record { 0 = me.0.seat }

      word_is : word_at k.world.table r p ≡ slice_index s.words place
      unfolding word_at
      word_is = ap (λ (t : Table). word_at t r p) k.table ∙ short_word shape.layout shape.rows k.fits shape.threads s.words k.sized r p inside.0 inside.2 low ∙ ap (slice_index s.words) (sym here)

      -- a short row's places are among those of a row
      within : p < 34
      within = let few = k.fits.0 in omega arith

      -- a word is written where it stands
      wrote : (d : ℕ) → with_word (sized shape s.words) r p d ≡ sized shape (slice_set s.words place d)
      wrote d =
          ap (λ (ws : List ℕ). record { threads = shape.threads; rows = shape.rows; words = ws; opening = greatest (opening_in shape) })
          (sym (set_word shape.layout shape.rows k.fits shape.threads s.words k.sized r p d inside.0 inside.2 low) ∙ ap (λ (n : ℕ). widen shape.layout shape.rows shape.threads (slice_set s.words n d)) (sym here))

      kept_size : (d : ℕ) → length (slice_set s.words place d) ≡ length s.words
      kept_size d = length-set s.words place d

      is_its_row : is_row k.world.table r ≡ true
      is_its_row = ap (λ (t : Table). is_row t r) k.table ∙ row_from (sized shape s.words) r inside.0 inside.1

      -- where it only learns
      learnt : (w : View M) → w.seat ≡ me.0.seat → w.made ≡ me.0.made → w.results ≡ me.0.results → beginning w ≡ beginning me.0 → Stays me.0 w → ((q : Row) → IsToBegin w q → IsToBegin me.0 q) → Knows k.world k.owner id w → Keeps stands shape (stepped s place (slice_index s.words place) id me.1 w keeps)
      learnt w seat_same made seen first stays begins knows = keeps_view stands shape s k id me.0 w _ view at_table seat_same made seen first stays begins (set-get_or s.words place 0) knows

      -- and a look at a cell begins with nothing
      saw_begins : (c : Cell) (q : Row) → IsToBegin (saw r c me.0) q → IsToBegin me.0 q
      saw_begins Fresh q h = h
      saw_begins Waiting q h = h
      saw_begins Claimed q h = h
      saw_begins (Synched j) q h = h
      saw_begins (Taken j) q h = h

      -- what the pass has seen then agrees with itself
      agreed : (x : ℕ) (w : View M) → w.threads ≡ me.0.threads → Keeps stands shape (stepped s place x id me.1 w keeps) → AgreesWithItself w
      agreed x w size after = moved_coherent stands shape s.views _ _ id me.0 w view size at_table after

      cell_is : p ≡ 0 → cell_at k.world.table r ≡ cell_read (slice_index s.words place)
      cell_is e = cell_inside k.world.table r is_its_row ∙ ap cell_read (ap (word_at k.world.table r) (sym e) ∙ word_is)

      is_cell : p ≡ 0 → is_some (cell_of (slice_index s.words place)) ≡ true
      is_cell e = sym (cell_is_word (slice_index s.words place)) ∙ subst (λ (n : ℕ × ℕ). is_word_for n.0 n.1 ≡ true) (λ i. (e i, word_is i)) (kept.formed.rows r p is_its_row within)

      -- a pass that rests makes steps, and so does one that claims or joins
      rests : me.0.stage ≡ Resting → me.0.stage ≢ Aside
      rests resting e = let bad : Resting ≡ Aside = sym resting ∙ e in cc

      stays_on : me.0.stage ≡ Resting → me.0.stage ≢ Left
      stays_on resting e = let bad : Resting ≡ Left = sym resting ∙ e in cc

      -- where it stands at the row, and has not seen its thread end
      lives : IsStand me.0.rows me.0.seen r → IsUnended → IsAlive k.world r.thread
      lives stand alive = alive_unseen k.world me.0.seen r.thread (stand_ends k.world k.owner id me.0 known r stand) alive

      -- where it writes a word behind the cell
      wrote_word : (d : ℕ) → (p ≡ 1 → unwrap_or (count_of d) 0 ≤ shape.layout.offers) → me.0.stage ≡ Resting → Has me.0.seen.held r → ¬ Has me.0.seen.opened r → IsUnended → 1 ≤ p → is_word_for p d ≡ true → Keeps stands shape (stepped s place d id me.1 (word_drafted r p d me.0) keeps)
      wrote_word d few resting held unopened alive high formed =
          let mine = known.mine r held in
          let fresh = known.fresh r held unopened in
          keeps_step stands shape s k id me.0 (drafted_word r p d me.0) _ k.owner view at_table refl refl refl (λ q h. h) (Draft r p d) tt tt few (known.seat, (mine.1, fresh, lives (inl (held, unopened)) alive, high, (let low_p = within in omega arith), formed))
          (record { same = (refl, refl, refl); acted = rests resting; goes = stays_on resting; acts = rests resting; held = λ q h. h; begun = λ q h. h; binds = λ n q scope e. let bad : Draft r p d ≡ Bind n q scope = e in cc }) (λ t rs h. inl h)
          (ap (λ (t : Table). with_word t r p d) k.table ∙ wrote d)
          (kept_size d)
          (λ j u n e t. others_draft k.world r p d k.owner kept is_its_row high within fresh j u (k.knows j u e t) (λ o. n (sym o ∙ mine.0)))
          (own_draft k.world r p d k.owner kept is_its_row high within fresh id me.0 known mine.0 mine.1)

      -- where it writes the cell
      module _ (c : Cell) (zero : p ≡ 0) (range : IsCellInRange c) (open_c : is_fresh c ≡ false)
          (was : joined_of (cell_at k.world.table r) ≡ None) (untaken : is_taken (cell_at k.world.table r) ≡ false) where
        abbrev later : World
        later = with_table k.world (with_cell k.world.table r c)

        own_now : cell_at later.table r ≡ c
        own_now = cell_now k.world r c k.owner kept is_its_row range open_c was untaken

        else_now : (q : Row) → row_eq q r ≡ false → cell_at later.table q ≡ cell_at k.world.table q
        else_now = cell_else k.world r c k.owner kept is_its_row range open_c was untaken

        calm_now : (stage : Stage) → (c ≡ Claimed → IsClaimer stage r) → ((q : Row) → row_eq q r ≡ false → IsClaimer me.0.stage q → IsClaimer stage q)
            → (q : Row) → Has me.0.seen.held q → cell_at later.table q ≡ Claimed → IsClaimer stage q
        calm_now stage at_r others q held h = ⊎_elim
            (λ (e : q ≡ r). subst (IsClaimer stage) (sym e) (at_r (sym own_now ∙ ap (cell_at later.table) (sym e) ∙ h)))
            (λ (e : row_eq q r ≡ false). others q e (known.calm q held (sym (else_now q e) ∙ h)))
            (row_cases q r)

        knows_now : (stage : Stage) → Staged later k.owner id stage → (c ≡ Claimed → IsClaimer stage r) → ((q : Row) → row_eq q r ≡ false → IsClaimer me.0.stage q → IsClaimer stage q)
            → Knows later k.owner id (turned stage r me.0)
        knows_now stage staged at_r others =
            own_cell k.world r c k.owner kept is_its_row range open_c was untaken id me.0 stage known staged (λ q held h. calm_now stage at_r others q held h)

        wrote_cell : (done : Step) (w : View M)
            → Condition k.world seat done
            → after_step k.world seat done ≡ later
            → ((j : ℕ) → j ≢ id → k.owner r ≡ j → (cell_at k.world.table r ≡ Waiting) × (is_some (joined_of c) ≡ true))
            → ((j : ℕ) (m : Row) → j ≢ id → k.owner m ≡ j → cell_at k.world.table m ≡ Claimed → names (joined_of c) m ≡ false)
            → w.seat ≡ me.0.seat
            → w.made ≡ me.0.made
            → w.results ≡ me.0.results
            → beginning w ≡ beginning me.0
            → ((q : Row) → IsToBegin w q → IsToBegin me.0 q)
            → LeavesHomes done
            → KeepsLives done
            → DraftsFew shape.layout.offers done
            → MovesOn me.0 w done
            → Knows later k.owner id w
            → Keeps stands shape (stepped s place (cell_word c) id me.1 (did done w) keeps)
        unfolding with_cell
        wrote_cell done w condition after by_other unnamed seat_same made seen first begins leaves still few on knows =
            keeps_step stands shape s k id me.0 w _ k.owner view at_table seat_same made first begins done leaves still few (known.seat, condition) on (λ t rs h. inl (subst (λ (l : List (ℕ × List Result)). Has l (t, rs)) seen h))
            (ap (λ (v : World). v.table) after ∙ ap (λ (t : Table). with_cell t r c) k.table ∙ ap (λ (q : ℕ). with_word (sized shape s.words) r q (cell_word c)) (sym zero) ∙ wrote (cell_word c))
            (kept_size (cell_word c))
            (λ j u n e t. subst (λ (v : World). Knows v k.owner j u) (sym after)
            (others_cell k.world r c k.owner kept is_its_row range open_c was untaken j u (k.knows j u e t) (λ o. by_other j n o) (λ m o h. unnamed j m n o h)))
            (subst (λ (v : World). Knows v k.owner id w) (sym after) knows)

      -- who holds a row owns it, and so does who is to begin with it
      begins_owned : (i : ℕ) (u : View M) (q : Row) → get_elem? s.views i ≡ some u → 0 < u.threads → IsToBegin u q → k.owner q ≡ i
      begins_owned i u q e of_table b =
          let knows = k.knows i u e of_table in
          ⊎_elim
          (λ (held : Has u.seen.held q). (knows.mine q held).0)
          (λ (deals : (q.thread < u.threads) × RunsIn (opening_by u) q.thread × (u.dealt ≤ q.thread % u.passes)).
          let mine = knows.undealt q.thread (subst (λ (n : ℕ). q.thread < n) knows.threads deals.0) deals.1 (subst (λ (n : ℕ). u.dealt ≤ q.thread % n) knows.passes deals.2) in
          ap k.owner (same_row q (first_row q.thread) refl b.0) ∙ mine.0)
          b.1

      -- so another pass does not begin with a row that the pass holds
      none_begins : Has me.0.seen.held r → (i : ℕ) (u : View M) → i ≢ id → get_elem? s.views i ≡ some u → 0 < u.threads → IsToBegin u r → ⊥
      none_begins held i u n e of_table b = n (sym (begins_owned i u r e of_table b) ∙ (known.mine r held).0)

      -- a held row that is not opened
      module _ (zero : p ≡ 0) (resting : me.0.stage ≡ Resting) (held : Has me.0.seen.held r) (unopened : ¬ Has me.0.seen.opened r) (alive : IsUnended) where
        fresh_now : cell_at k.world.table r ≡ Fresh
        fresh_now = known.fresh r held unopened

        abbrev open_world : World
        open_world = later Waiting zero tt refl (ap joined_of fresh_now) (ap is_taken fresh_now)

        allowed_open : Allowed k.world seat (Open r)
        allowed_open = (known.seat, ((known.mine r held).1, fresh_now, lives (inl (held, unopened)) alive))

        opened_knows : Knows open_world k.owner id (turned Resting r me.0)
        opened_knows = knows_now Waiting zero tt refl (ap joined_of fresh_now) (ap is_taken fresh_now) Resting tt (λ e. let bad : Waiting ≡ Claimed = e in cc) (λ q e h. subst (λ (z : Stage). IsClaimer z q) resting h)

        others_open : (j : ℕ) (u : View M) → j ≢ id → get_elem? s.views j ≡ some u → 0 < u.threads → Knows open_world k.owner j u
        others_open j u n e t = others_cell k.world r Waiting k.owner kept is_its_row tt refl (ap joined_of fresh_now) (ap is_taken fresh_now) j u (k.knows j u e t) (λ o. absurd (n (sym o ∙ (known.mine r held).0))) (λ m o h. refl)

        -- what lies in the slots is said apart
        opens : (hs : List (Maybe (Option M))) → (0 < length shape.first.value.items → Housed stands shape.first.value.items open_world hs (slice_set s.views id (did (Open r) (turned Resting r me.0))))
            → Keeps stands shape (record { words = slice_set s.words place (cell_word Waiting); homes = hs; views = slice_set s.views id (did (Open r) (turned Resting r me.0)) })
        unfolding with_cell
        opens hs house =
            keeps_housed stands shape s k id me.0 (turned Resting r me.0) _ hs k.owner view at_table refl refl refl (Open r) (λ some_first. (tt, tt)) tt allowed_open
            (record { same = (refl, refl, refl); acted = rests resting; goes = stays_on resting; acts = λ e. let bad : Resting ≡ Aside = e in cc; held = λ q h. h; begun = λ q h. h; binds = λ n q scope e. let bad : Open r ≡ Bind n q scope = e in cc }) (λ t rs h. inl h)
            (ap (λ (t : Table). with_cell t r Waiting) k.table ∙ ap (λ (q : ℕ). with_word (sized shape s.words) r q (cell_word Waiting)) (sym zero) ∙ wrote (cell_word Waiting))
            (kept_size (cell_word Waiting))
            others_open opened_knows house

        -- in a table of machines: the row's goes home
        module _ (some_first : 0 < length shape.first.value.items) (value : M) (room : r.thread < length s.homes) (ready : IsReady stands shape.first.value.items me.0.results me.0.seen r value) where
          results_now : (t : ℕ) (rs : List Result) → Has me.0.results (t, rs) → AreResults (ledger_of open_world.table) t rs
          results_now t rs h = results-stay k.world open_world.table t rs kept (grows-step k.world seat (Open r) kept allowed_open) (k.results id me.0 t rs view h)

          house_open : Housed stands shape.first.value.items open_world (slice_set s.homes r.thread (some (Some value))) (slice_set s.views id (did (Open r) (turned Resting r me.0)))
          house_open =
              housed_open stands shape.first.value.items k.world seat r value s.homes s.views id me.0 (did (Open r) (turned Resting r me.0)) kept allowed_open room (ap is_fresh fresh_now) (known.mine r held).1
              (goes_home stands shape.first.value.items open_world k.owner id (turned Resting r me.0) opened_knows (kept_step k.world seat (Open r) kept allowed_open) r value (inl refl) held (ready_opened ready) results_now)
              (none_begins held) (λ b. b.2 (ready.begun b.0)) view at_table (λ q h. h) (k.housed some_first)
            where
              ready_opened : IsReady stands shape.first.value.items me.0.results me.0.seen r value → IsReady stands shape.first.value.items (turned Resting r me.0).results (turned Resting r me.0).seen r value
              ready_opened x = record { earlier = x.earlier; count = x.count; seen = x.seen; offers = x.offers; nacks = x.nacks; standing = x.standing; drafted = x.drafted; bound = x.bound; no_others = x.no_others; begun = x.begun }

      -- a held row that waits
      claims : p ≡ 0 → me.0.stage ≡ Resting → Has me.0.seen.held r → cell_at k.world.table r ≡ Waiting → Keeps stands shape (stepped s place (cell_word Claimed) id me.1 (did (Claim r) (turned (Claims r) r me.0)) keeps)
      claims zero resting held waits =
          let mine = known.mine r held in
          let was : joined_of (cell_at k.world.table r) ≡ None = ap joined_of waits in
          let untaken : is_taken (cell_at k.world.table r) ≡ false = ap is_taken waits in
          let unnamed = idle_unnamed k.world r kept (λ e. let bad : Waiting ≡ Claimed = sym waits ∙ e in cc) was in
          let now = own_now Claimed zero tt refl was untaken in
          wrote_cell Claimed zero tt refl was untaken (Claim r) (turned (Claims r) r me.0) (mine.1, waits) refl
          (λ j n o. absurd (n (sym o ∙ mine.0))) (λ j m n o h. refl) refl refl refl refl (λ q h. h) tt tt tt
          (record { same = (refl, refl, refl); acted = rests resting; goes = stays_on resting; acts = λ e. let bad : Claims r ≡ Aside = e in cc; held = λ q h. h; begun = λ q h. h; binds = λ n q scope e. let bad : Claim r ≡ Bind n q scope = e in cc })
          (knows_now Claimed zero tt refl was untaken (Claims r) (
            mine.0,
            now,
            λ q. ⊎_elim
                (λ (e : q ≡ r). ap (λ (y : Row). names (joined_at (with_cell k.world.table r Claimed) y) r) e ∙ ap (λ (d : Cell). names (joined_of d) r) now)
                (λ (e : row_eq q r ≡ false). ap (λ (d : Cell). names (joined_of d) r) (else_now Claimed zero tt refl was untaken q e) ∙ unnamed q)
                (row_cases q r),
          )
          (λ e. refl)
          (λ q e h. absurd (subst (λ (z : Stage). IsClaimer z q) resting h)))

      -- a row that this call has claimed, and joined with no other
      yields : p ≡ 0 → me.0.stage ≡ Claims r → Has me.0.seen.held r → Keeps stands shape (stepped s place (cell_word Waiting) id me.1 (did (Yield r) (turned Resting r me.0)) keeps)
      yields zero claiming held =
          let mine = known.mine r held in
          let staged = subst (λ (z : Stage). Staged k.world k.owner id z) claiming known.staged in
          let was : joined_of (cell_at k.world.table r) ≡ None = ap joined_of staged.1 in
          let untaken : is_taken (cell_at k.world.table r) ≡ false = ap is_taken staged.1 in
          wrote_cell Waiting zero tt refl was untaken (Yield r) (turned Resting r me.0)
          (mine.1, staged.1, namer_none _ (joined_at k.world.table) r staged.2) refl
          (λ j n o. absurd (n (sym o ∙ mine.0))) (λ j m n o h. refl) refl refl refl refl (λ q h. h) tt tt tt
          (record { same = (refl, refl, refl); acted = λ e. let bad : Claims r ≡ Aside = sym claiming ∙ e in cc; goes = λ e. let bad : Claims r ≡ Left = sym claiming ∙ e in cc; acts = λ e. let bad : Resting ≡ Aside = e in cc; held = λ q h. h; begun = λ q h. h; binds = λ n q scope e. let bad : Yield r ≡ Bind n q scope = e in cc })
          (knows_now Waiting zero tt refl was untaken Resting tt (λ e. let bad : Waiting ≡ Claimed = e in cc)
          (λ q e h. false≢true (sym e ∙ ap (row_eq q) (subst (λ (z : Stage). IsClaimer z q) claiming h) ∙ row_eq-refl q)))

      -- the pass once it has joined the row
      abbrev joined_by : Row → ℕ → ℕ → Joined → View M
      joined_by mine own partner j = did (Join mine own r partner) (saw r (Synched j) (turned (Joins mine r j) r me.0))

      -- another row, which waits: it is joined with the row that this call has claimed
      joins : p ≡ 0 → (mine : Row) (own partner : ℕ) (j : Joined) → me.0.stage ≡ Claims mine → Has me.0.seen.held mine → CanJoin me.0.seen mine own r partner j
          → cell_at k.world.table r ≡ Waiting → Keeps stands shape (stepped s place (cell_word (Synched j)) id me.1 (joined_by mine own partner j) keeps)
      joins zero mine own partner j claiming held can waits =
          let staged = subst (λ (z : Stage). Staged k.world k.owner id z) claiming known.staged in
          let was : joined_of (cell_at k.world.table r) ≡ None = ap joined_of waits in
          let untaken : is_taken (cell_at k.world.table r) ≡ false = ap is_taken waits in
          let meet = offers_known k.world k.owner id me.0 known kept mine own r partner j can in
          let is : joined_with k.world.table mine own r partner ≡ j = joined_known k.world k.owner id me.0 known kept mine own r partner j can (waits_unjoined k.world r waits) in
          let range : IsJoinedInRange j = subst IsJoinedInRange is (join_in_range k.world mine own r partner kept (waits_unjoined k.world r waits) (row_of_open k.world.table mine (ap is_fresh staged.1)) meet) in
          let apart : row_eq mine r ≡ false = row_ne mine r (λ e. can.apart (ap (λ (y : Row). y.thread) e)) in
          let partner_is : j.partner ≡ Some (mine, own) = ap (λ (y : Joined). y.partner) can.is in
          let now = own_now (Synched j) zero range refl was untaken in
          wrote_cell (Synched j) zero range refl was untaken (Join mine own r partner) (saw r (Synched j) (turned (Joins mine r j) r me.0))
          ((known.mine mine held).1, staged.1, namer_none _ (joined_at k.world.table) mine staged.2, waits, can.apart, meet)
          (ap (λ (y : Joined). with_table k.world (with_cell k.world.table r (Synched y))) is)
          (λ i n o. (waits, refl))
          (λ i m n o h. ap (λ (y : Option (Row × ℕ)). is_partner y m) partner_is ∙ row_ne mine m (λ e. n (sym o ∙ ap k.owner (sym e) ∙ staged.0)))
          refl refl refl refl (λ q h. h) tt tt tt
          (record { same = (refl, refl, refl); acted = λ e. let bad : Claims mine ≡ Aside = sym claiming ∙ e in cc; goes = λ e. let bad : Claims mine ≡ Left = sym claiming ∙ e in cc; acts = λ e. let bad : Joins mine r j ≡ Aside = e in cc; held = λ q h. h; begun = λ q h. h; binds = λ n q scope e. let bad : Join mine own r partner ≡ Bind n q scope = e in cc })
          (learn_cell _ k.owner id (turned (Joins mine r j) r me.0) r (Synched j)
          (knows_now (Synched j) zero range refl was untaken (Joins mine r j)
          (staged.0, else_now (Synched j) zero range refl was untaken mine apart ∙ staged.1, ap joined_of now, ap (λ (y : Option (Row × ℕ)). is_partner y mine) partner_is ∙ row_eq-refl mine)
          (λ e. let bad : Synched j ≡ Claimed = e in cc)
          (λ q e h. subst (λ (z : Stage). IsClaimer z q) claiming h))
          now)

      -- a row that waits: it is committed alone
      grants : p ≡ 0 → (n : ℕ) (j : Joined) → me.0.stage ≡ Resting → CanGrant me.0.seen r n j → cell_at k.world.table r ≡ Waiting
          → Keeps stands shape (stepped s place (cell_word (Synched j)) id me.1 (did (Grant r n) (settled r j me.0)) keeps)
      grants zero n j resting can waits =
          let was : joined_of (cell_at k.world.table r) ≡ None = ap joined_of waits in
          let untaken : is_taken (cell_at k.world.table r) ≡ false = ap is_taken waits in
          let known_grant = granted_known k.world k.owner id me.0 known kept r n j can (waits_unjoined k.world r waits) in
          let range : IsJoinedInRange j = subst IsJoinedInRange known_grant.1 (grant_in_range k.world r n can.cause kept (waits_unjoined k.world r waits) known_grant.0) in
          let nobody : j.partner ≡ None = ap (λ (y : Joined). y.partner) can.is in
          let now = own_now (Synched j) zero range refl was untaken in
          wrote_cell (Synched j) zero range refl was untaken (Grant r n) (settled r j me.0)
          (waits, ap (λ (o : Option ℕ). is_some o) known_grant.0)
          (ap (λ (y : Joined). with_table k.world (with_cell k.world.table r (Synched y))) known_grant.1)
          (λ i n o. (waits, refl))
          (λ i m n o h. ap (λ (y : Option (Row × ℕ)). is_partner y m) nobody) refl refl refl refl (λ q h. h) tt tt tt
          (record { same = (refl, refl, refl); acted = rests resting; goes = stays_on resting; acts = λ e. let bad : Resting ≡ Aside = e in cc; held = λ q h. h; begun = λ q h. h; binds = λ m q scope e. let bad : Grant r n ≡ Bind m q scope = e in cc })
          (learn_cell _ k.owner id (turned Resting r me.0) r (Synched j)
          (knows_now (Synched j) zero range refl was untaken Resting tt
          (λ e. let bad : Synched j ≡ Claimed = e in cc)
          (λ q e h. subst (λ (z : Stage). IsClaimer z q) resting h))
          now)

      -- a committed row that nobody has taken: the pass takes it, and holds the row behind it
      module _ (j : Joined) (is : cell_at k.world.table r ≡ Synched j) where
        abbrev owner' : Row → ℕ
        owner' = put k.owner (next_row r) id

        abbrev later_taken : World
        later_taken = taken_world k.world seat r j kept is

        -- whoever holds a row owns it as before
        owned : (i : ℕ) (q : Row) → holder_at k.world q ≢ None → k.owner q ≡ i → owner' q ≡ i
        owned i q held o = put_other k.owner (next_row r) id q (held_apart (holder_at k.world q) refl) ∙ o
          where
            held_apart : (h : Option ℕ) → holder_at k.world q ≡ h → row_eq q (next_row r) ≡ false
            held_apart None e = absurd (held e)
            held_apart (Some n) e = not_held k.world seat r j kept is q n e

        owned_last : (i t : ℕ) → last_holder k.world t ≢ None → k.owner (behind_last k.world.table.rows t) ≡ i → owner' (behind_last k.world.table.rows t) ≡ i
        owned_last i t last o = put_other k.owner (next_row r) id (behind_last k.world.table.rows t) (row_ne (behind_last k.world.table.rows t) (next_row r) (λ e. ⊎_elim
            (λ (e : last_holder k.world t ≡ None). last e)
            (λ (at : (n : ℕ) × (last_holder k.world t ≡ Some n)). not_last k.world seat r j kept is t at.0 at.1 (ap (λ (z : Row). z.thread) e) (sym (ap (λ (z : Row). z.sync) e)))
            (cases_Option (last_holder k.world t)))) ∙ o

        -- the thread has not ended
        sees_on : (x : Seen) → SeesEnd later_taken x r.thread
        sees_on x g e = absurd (goes_on k.world seat r j kept is g (no_end_taken k.world seat r j kept is r.thread g e))

        still_knows : (i : ℕ) (u : View M) → Knows k.world k.owner i u → Knows later_taken owner' i u
        still_knows i u knows =
            knows_follows k.world later_taken owner' i u (follows_taken k.world seat r j kept is) (no_end_taken k.world seat r j kept is) (λ n b e o. inl (sym (bindings_after k.world seat r j kept is n) ∙ e))
            (knows_owned k.world k.owner owner' i u kept (owned i) (owned_last i) knows)

        took_knows : Knows later_taken owner' id (took r j me.0)
        took_knows =
            let saw_it : Knows later_taken owner' id (saw r (Taken j) me.0) = learn_cell later_taken owner' id me.0 r (Taken j) (still_knows id me.0 known) (taken_at k.world seat r j kept is) in
            by_next saw_it (ltb (r.sync + 1) me.0.rows) refl
          where
            ends : ltb (r.sync + 1) me.0.rows ≡ false → r.sync + 1 ≡ k.world.table.rows
            ends e = let past : me.0.rows ≤ r.sync + 1 = ltb-false (r.sync + 1) me.0.rows e in let i = (row_inside k.world.table r is_its_row).1 in omega (arith, past, i, known.rows)

            by_next : Knows later_taken owner' id (saw r (Taken j) me.0) → (b : Bool) → ltb (r.sync + 1) me.0.rows ≡ b → Knows later_taken owner' id (took r j me.0)
            by_next saw_it true e =
                let row : is_row k.world.table (next_row r) ≡ true =
                row_from k.world.table (next_row r) (row_inside k.world.table r is_its_row).0 (subst (λ (n : ℕ). r.sync + 1 < n) known.rows (ltb-true _ _ e)) in
                let next = next_held k.world seat r j kept is row in
                subst (λ (b : Bool). Knows later_taken owner' id (at_stage me.0.stage (cond b (see_held (next_row r) (saw r (Taken j) me.0).seen) (record (saw r (Taken j) me.0).seen { lasts = r.thread ∷ me.0.seen.lasts })) me.0)) (sym e)
                (hold_more later_taken owner' id (saw r (Taken j) me.0) (next_row r) saw_it (put_same k.owner (next_row r) id) next.0 next.1 next.2 (next_unbound k.world seat r j kept is) (sees_on (saw r (Taken j) me.0).seen))
            by_next saw_it false e =
                subst (λ (b : Bool). Knows later_taken owner' id (at_stage me.0.stage (cond b (see_held (next_row r) (saw r (Taken j) me.0).seen) (record (saw r (Taken j) me.0).seen { lasts = r.thread ∷ me.0.seen.lasts })) me.0)) (sym e)
                (stand_behind later_taken owner' id (saw r (Taken j) me.0) r.thread saw_it (ap owner' (same_row (behind_last later_taken.table.rows r.thread) (next_row r) refl ((follows_taken k.world seat r j kept is).rows ∙ sym (ends e))) ∙ put_same k.owner (next_row r) id) (last_held_now k.world seat r j kept is (ends e)) (sees_on (saw r (Taken j) me.0).seen))

        module _ (zero : p ≡ 0) (resting : me.0.stage ≡ Resting) (results : List Result) (are : AreResults (ledger_of k.world.table) r.thread results) where
          abbrev taker : View M
          taker = did (Take r) (took_with r j results me.0)

          after_take : after_step k.world seat (Take r) ≡ later_taken
          after_take = ap (λ (o : Option Joined). Rattle.protocol_ledger.proofs.Keeping.took k.world seat r (with_take k.world.table r o)) (ap synched_of is)

          allowed_take : Allowed k.world seat (Take r)
          allowed_take = (known.seat, ap (λ (o : Option Joined). is_some o) (ap synched_of is))

          taker_begins : (q : Row) → IsToBegin taker q → IsToBegin me.0 q
          taker_begins q b = took_begins me.0.rows r (see_cell r (Taken j) me.0.seen) me.0 q b

          takes : (hs : List (Maybe (Option M))) → (0 < length shape.first.value.items → Housed stands shape.first.value.items (after_step k.world seat (Take r)) hs (slice_set s.views id taker))
              → Keeps stands shape (record { words = slice_set s.words place (cell_word (Taken j)); homes = hs; views = slice_set s.views id taker })
          unfolding with_cell
          takes hs house =
              let stay = results-stay k.world (after_step k.world seat (Take r)).table r.thread results kept (grows-step k.world seat (Take r) kept allowed_take) are in
              keeps_housed stands shape s k id me.0 (took_with r j results me.0) _ hs owner' view at_table refl refl refl (Take r) (λ some_first. (tt, tt)) tt allowed_take
              (record { same = (refl, refl, refl); acted = rests resting; goes = stays_on resting; acts = rests resting; held = λ q h. took_holds me.0.rows r (see_cell r (Taken j) me.0.seen) q h; begun = λ q h. took_begun me.0.rows r (see_cell r (Taken j) me.0.seen) q h; binds = λ n q scope e. let bad : Take r ≡ Bind n q scope = e in cc })
              (λ t rs. ⊎_elim
              (λ (e : (r.thread, results) ≡ (t, rs)). inr (subst (λ (z : ℕ × List Result). AreResults (ledger_of (after_step k.world seat (Take r)).table) z.0 z.1) e stay))
              (λ (old : Has me.0.results (t, rs)). inl old))
              (ap (λ (v : World). v.table) after_take ∙ ap (λ (t : Table). with_cell t r (Taken j)) k.table ∙ ap (λ (q : ℕ). with_word (sized shape s.words) r q (cell_word (Taken j))) (sym zero) ∙ wrote (cell_word (Taken j)))
              (kept_size (cell_word (Taken j)))
              (λ i u n e t. subst (λ (v : World). Knows v owner' i u) (sym after_take) (still_knows i u (k.knows i u e t)))
              (subst (λ (v : World). Knows v owner' id (took_with r j results me.0)) (sym after_take) took_knows)
              house

          -- what the pass sees of the row then is the last of the results
          sees_since : length results ≡ r.sync + 1 → (got : Message) (earlier : List Result) → results ≡ earlier ++ (j.own, got) ∷ [] → length earlier ≡ r.sync → (m : Message) → IsResult taker.seen r m → m ≡ got
          sees_since size got earlier whole count =
              let world = after_step k.world seat (Take r) in
              sees_last stands shape.first.value.items world owner' id (took_with r j results me.0) (subst (λ (v : World). Knows v owner' id (took_with r j results me.0)) (sym after_take) took_knows) (kept_step k.world seat (Take r) kept allowed_take)
              r j results earlier got (ap (λ (v : World). joined_at v.table r) after_take ∙ ap joined_of (taken_at k.world seat r j kept is)) size (results-stay k.world world.table r.thread results kept (grows-step k.world seat (Take r) kept allowed_take) are) whole count

          -- in a table without machines
          takes_bare : length shape.first.value.items ≡ 0 → Keeps stands shape (record { words = slice_set s.words place (cell_word (Taken j)); homes = s.homes; views = slice_set s.views id taker })
          takes_bare empty = takes s.homes (λ some_first. absurd (omega (arith, empty)))

          -- in a table of machines: the row's comes out
          module _ (some_first : 0 < length shape.first.value.items) where
            at_home : IsHome stands shape.first.value.items (ledger_of k.world.table) s.homes r
            at_home = value_out stands shape.first.value.items k.world seat r j s.homes s.views id me.0 taker kept allowed_take is taken_after view at_table taker_begins (k.housed some_first)
              where
                taken_after : is_taken (cell_at (after_step k.world seat (Take r)).table r) ≡ true
                taken_after = ap is_taken (ap (λ (v : World). cell_at v.table r) after_take ∙ taken_at k.world seat r j kept is)

            takes_out : Keeps stands shape (record { words = slice_set s.words place (cell_word (Taken j)); homes = slice_set s.homes r.thread none; views = slice_set s.views id taker })
            takes_out = takes (slice_set s.homes r.thread none) (λ more. housed_take stands shape.first.value.items k.world seat r j s.homes s.views id me.0 taker kept allowed_take is
                (ap is_taken (ap (λ (v : World). cell_at v.table r) after_take ∙ taken_at k.world seat r j kept is)) view at_table taker_begins (k.housed some_first))

      -- a claimed row: it is committed as the row that this call joined says
      seals : p ≡ 0 → (other : Row) (own : ℕ) (j : Joined) → me.0.stage ≡ Joins r other j → j.partner ≡ Some (r, own) → Has me.0.seen.held r
          → Keeps stands shape (stepped s place (cell_word (Synched (mirrored other j own))) id me.1 (did (Seal r) (settled r (mirrored other j own) me.0)) keeps)
      seals zero other own j joining_now partner_is held =
          let mine = known.mine r held in
          let staged = subst (λ (z : Stage). Staged k.world k.owner id z) joining_now known.staged in
          let was : joined_of (cell_at k.world.table r) ≡ None = ap joined_of staged.1 in
          let untaken : is_taken (cell_at k.world.table r) ≡ false = ap is_taken staged.1 in
          let open_other : is_fresh (cell_at k.world.table other) ≡ false = fresh_not_joined (cell_at k.world.table other) j staged.2 in
          let there = row_inside k.world.table other (row_of_open k.world.table other open_other) in
          let named : names (joined_at k.world.table other) r ≡ true = ap (λ (y : Option Joined). names y r) staged.2 ∙ staged.3 in
          let namer : namer_at k.world r ≡ Some other = namer_is k.world.table.threads k.world.table.rows (joined_at k.world.table) r other there.0 there.1 named (λ q h. kept.linked.once q other r h named) in
          let sealing : IsSealing k.world.table r other = record { way = j; offer = own; is = staged.2; partner = partner_is } in
          let range = seal_in_range k.world r other sealing kept in
          let now = own_now (Synched (mirrored other j own)) zero range refl was untaken in
          wrote_cell (Synched (mirrored other j own)) zero range refl was untaken (Seal r) (settled r (mirrored other j own) me.0)
          (mine.1, staged.1, ap (λ (y : Option Row). is_some y) namer)
          (ap (λ (y : Option Joined). with_table k.world (with_seal k.world.table r y)) (sealed_is k.world.table r other (namer_at k.world r) sealing namer))
          (λ i n o. absurd (n (sym o ∙ mine.0)))
          (λ i m n o h. row_ne other m (λ e. let bad : None ≡ Some j = sym (ap joined_of h) ∙ ap (joined_at k.world.table) (sym e) ∙ staged.2 in cc)) refl refl refl refl (λ q h. h) tt tt tt
          (record { same = (refl, refl, refl); acted = λ e. let bad : Joins r other j ≡ Aside = sym joining_now ∙ e in cc; goes = λ e. let bad : Joins r other j ≡ Left = sym joining_now ∙ e in cc; acts = λ e. let bad : Resting ≡ Aside = e in cc; held = λ q h. h; begun = λ q h. h; binds = λ n q scope e. let bad : Seal r ≡ Bind n q scope = e in cc })
          (learn_cell _ k.owner id (turned Resting r me.0) r (Synched (mirrored other j own))
          (knows_now (Synched (mirrored other j own)) zero range refl was untaken Resting tt
          (λ e. let bad : Synched (mirrored other j own) ≡ Claimed = e in cc)
          (λ q e h. false≢true (sym e ∙ ap (row_eq q) (subst (λ (z : Stage). IsClaimer z q) joining_now h) ∙ row_eq-refl q)))
          now)

  module _ (shape : Shape M) (slots id place : ℕ) (me : Me (Option M) (View M)) (r : Row)
      (threads : me.0.threads ≡ shape.threads) (rows : me.0.rows ≡ shape.rows) (wide : me.0.layout ≡ shape.layout)
      (inside : Inside shape.threads shape.rows shape.layout r) where
    pub look_allowed : place ≡ short_place shape.layout r 0 → Allows (Keeps stands shape) slots id me place (λ n. n) (looked (step slots place 0 0 none) me)
    look_allowed here s k homes view range =
        let c = cell_read (slice_index s.words place) in
        let knows = known shape id place me r 0 threads rows wide inside (omega arith) here s k view in
        let read = cell_is shape id place me r 0 threads rows wide inside (omega arith) here s k view refl in (
          saw r c me.0,
          keeps,
          tt,
          learnt shape id place me r 0 threads rows wide inside (omega arith) here s k view (saw r c me.0) refl refl refl refl (saw_stays r c me.0) (saw_begins shape id place me r 0 threads rows wide inside (omega arith) here s k view c) (learn_cell k.world k.owner id me.0 r c knows read),
          λ q at.
              let there = seen_there k.world k.owner id me r q c (world_kept stands shape s k) knows read (one_word shape id place me r 0 threads rows wide inside (omega arith) here q 0 (omega arith) at.0 at.1).0 in
              (there.0, there.1, with_itself k.world k.owner id (saw r c me.0) (learn_cell k.world k.owner id me.0 r c knows read) (world_kept stands shape s k) (open_words stands shape s k wide), is_cell shape id place me r 0 threads rows wide inside (omega arith) here s k view refl),
        )

    -- whoever learns nothing sees that what he has seen is of one table
    pub glance_allowed : place ≡ short_place shape.layout r 0 → Allows (Keeps stands shape) slots id me place (λ n. n) (glanced (step slots place 0 0 none) me)
    glance_allowed here s k homes view range =
        let knows = known shape id place me r 0 threads rows wide inside (omega arith) here s k view in (
          me.0,
          keeps,
          tt,
          learnt shape id place me r 0 threads rows wide inside (omega arith) here s k view me.0 refl refl refl refl (refl, refl, refl, refl, refl, λ q h. inl h) (λ q h. h) knows,
          (
            refl,
            with_itself k.world k.owner id me.0 knows (world_kept stands shape s k) (open_words stands shape s k wide),
            λ q its row none. agrees k.world k.owner id me.0 knows (world_kept stands shape s k) q Fresh (missing_words stands shape s k wide q none),
          ),
        )

    pub read_allowed : (p : ℕ) → 1 ≤ p → p < row_len shape.layout.offers → Has me.0.seen.opened r → place ≡ short_place shape.layout r p → Allows (Keeps stands shape) slots id me place (λ n. n) (has_read (step slots place 0 0 none) me)
    read_allowed p high low seen here s k homes view range =
        let x = slice_index s.words place in
        let knows = known shape id place me r p threads rows wide inside low here s k view in (
          read_word r p x me.0,
          keeps,
          tt,
          learnt shape id place me r p threads rows wide inside low here s k view (read_word r p x me.0) refl refl refl refl (refl, refl, refl, refl, refl, λ q h. inl h) (λ q h. h)
              (learn_word k.world k.owner id me.0 r p x knows (knows.opened r seen) high (within shape id place me r p threads rows wide inside low here s k view) (word_is shape id place me r p threads rows wide inside low here s k view)),
          λ q o h at. (
            ap (λ (z : Row × ℕ). (read_word z.0 z.1 x me.0, me.1)) (let e = one_word shape id place me r p threads rows wide inside low here q o h at.0 at.1 in λ i. (e.0 i, e.1 i)),
            with_itself k.world k.owner id (read_word r p x me.0) (learn_word k.world k.owner id me.0 r p x knows (knows.opened r seen) high (within shape id place me r p threads rows wide inside low here s k view) (word_is shape id place me r p threads rows wide inside low here s k view)) (world_kept stands shape s k) (open_words stands shape s k wide),
            λ first.
                let second : p ≡ 1 = (one_word shape id place me r p threads rows wide inside low here q o h at.0 at.1).1 ∙ first in
                subst (λ (z : ℕ × ℕ). unwrap_or (count_of z.0) 0 ≤ z.1) (λ i. ((ap (word_at k.world.table r) (sym second) ∙ word_is shape id place me r p threads rows wide inside low here s k view) i, ap (λ (y : Layout). y.offers) (sym wide) i))
                (k.counts r (is_its_row shape id place me r p threads rows wide inside low here s k view)),
          ),
        )

    pub draft_allowed : (p d : ℕ) → 1 ≤ p → p < row_len shape.layout.offers → is_word_for p d ≡ true → (p ≡ 1 → unwrap_or (count_of d) 0 ≤ shape.layout.offers) → me.0.stage ≡ Resting → Has me.0.seen.held r → ¬ Has me.0.seen.opened r → (¬ SawEnded me.0.seen r.thread) → place ≡ short_place shape.layout r p
        → Allows (Keeps stands shape) slots id me place (λ n. d) (λ n. drafted (step slots place d 0 none) me d)
    draft_allowed p d high low formed few resting held unopened alive here s k homes view range =
        let after = word_drafted r p d me.0 in
        let moved : Keeps stands shape (stepped s place d id me.1 after keeps) = wrote_word shape id place me r p threads rows wide inside low here s k view d few resting held unopened alive high formed in (
          after,
          keeps,
          tt,
          moved,
          λ q o h at. (
            ap (λ (z : Row × ℕ). (word_drafted z.0 z.1 d me.0, me.1)) (let e = one_word shape id place me r p threads rows wide inside low here q o h at.0 at.1 in λ i. (e.0 i, e.1 i)),
            agreed shape id place me r p threads rows wide inside low here s k view d after refl moved,
          ),
        )

    -- a held row that is not opened
    pub open_allowed : slots ≡ length shape.first.value.items → (0 < length shape.first.value.items → length shape.first.value.items ≡ shape.threads) → me.0.stage ≡ Resting → Has me.0.seen.held r → ¬ Has me.0.seen.opened r → (¬ SawEnded me.0.seen r.thread)
        → (0 < length shape.first.value.items → (value : M) × (me.1 ≡ (r.thread, Some value) ∷ rest me.1) × IsReady stands shape.first.value.items me.0.results me.0.seen r value) → place ≡ short_place shape.layout r 0
        → Allows (Keeps stands shape) slots id me place (λ n. cell_word Waiting) (λ n. opened (step slots place (cell_word Waiting) 0 none) me (cell_word Waiting))
    open_allowed count full resting held unopened alive parked here s k homes view range = by_slots (some_or_none shape.first.value.items)
      where
        after : View M
        after = did (Open r) (turned Resting r me.0)

        firsts : me.0.first ≡ shape.first.value.items
        firsts = ap (λ (z : List (Option M) × Opening × Layout). z.0) (k.firsts id me.0 view (at_table shape id place me r 0 threads rows wide inside (omega arith) here))

        told : (c : List (ℕ × Option M)) → GoesHome me.0.first me.1 c → AgreesWithItself after → opened (step slots place (cell_word Waiting) 0 none) me (cell_word Waiting) (after, c)
        told c home agree q at = (ap (λ (z : Row). did (Open z) (turned Resting z me.0)) (one_word shape id place me r 0 threads rows wide inside (omega arith) here q 0 (omega arith) at.0 at.1).0, home, agree)

        by_slots : (length shape.first.value.items ≡ 0) ⊎ (0 < length shape.first.value.items)
            → (w : View M) × (a : Act (Option M)) × Valid s.homes me.1 a × Keeps stands shape (stepped s place (cell_word Waiting) id me.1 w a) × opened (step slots place (cell_word Waiting) 0 none) me (cell_word Waiting) (w, carried_after me.1 a)
        by_slots (inl empty) =
            let moved : Keeps stands shape (stepped s place (cell_word Waiting) id me.1 after keeps) = opens shape id place me r 0 threads rows wide inside (omega arith) here s k view refl resting held unopened alive s.homes (λ some_first. absurd (omega (arith, empty))) in (
              after,
              keeps,
              tt,
              moved,
              told me.1 ((λ e. refl), λ filled. absurd (let same : length me.0.first ≡ 0 = ap (λ (l : List (Option M)). length l) firsts ∙ empty in omega arith))
                  (agreed shape id place me r 0 threads rows wide inside (omega arith) here s k view (cell_word Waiting) after refl moved),
            )
        by_slots (inr some_first) =
            let p = parked some_first in
            let room : r.thread < length s.homes = let i = inside.0 in let f = full some_first in omega (arith, homes, count, f, i) in
            let put : put_back s.homes me.1 ≡ slice_set s.homes r.thread (some (Some p.0)) = ap (put_back s.homes) p.1 in
            let moved : Keeps stands shape (stepped s place (cell_word Waiting) id me.1 after gives) =
            subst (λ (hs : List (Maybe (Option M))). Keeps stands shape (record { words = slice_set s.words place (cell_word Waiting); homes = hs; views = slice_set s.views id after })) (sym put)
            (opens shape id place me r 0 threads rows wide inside (omega arith) here s k view refl resting held unopened alive (slice_set s.homes r.thread (some (Some p.0)))
            (λ again. house_open shape id place me r 0 threads rows wide inside (omega arith) here s k view refl resting held unopened alive some_first p.0 room p.2)) in (
              after,
              gives,
              tt,
              moved,
              told (rest me.1) ((λ e. absurd (let same : length me.0.first ≡ length shape.first.value.items = ap (λ (l : List (Option M)). length l) firsts in omega arith)), λ filled. refl)
                  (moved_coherent stands shape s.views _ _ id me.0 after view refl (at_table shape id place me r 0 threads rows wide inside (omega arith) here) moved),
            )

    -- the first row of a thread, with which the pass has not begun
    pub begin_allowed : (0 < length shape.first.value.items) → r.sync ≡ 0 → Has me.0.seen.held r → ¬ Has me.0.seen.begun r → place ≡ short_place shape.layout r 0
        → Allows (Keeps stands shape) slots id me place (λ n. n) (has_begun (step slots place 0 0 none) me)
    begin_allowed some_first zero held unbegun here s k homes view range =
        let knows = known shape id place me r 0 threads rows wide inside (omega arith) here s k view in
        let after : View M = began r me.0 in
        let to_begin : IsToBegin me.0 r = (zero, inl held, unbegun) in
        let firsts : me.0.first ≡ shape.first.value.items = ap (λ (z : List (Option M) × Opening × Layout). z.0) (k.firsts id me.0 view (at_table shape id place me r 0 threads rows wide inside (omega arith) here)) in
        let started : course_at k.world.table r.thread ≢ Unstarted = (world_kept stands shape s k).begun r (is_held k.world r me.0.seat (knows.mine r held).1) in
        let others = none_begins shape id place me r 0 threads rows wide inside (omega arith) here s k view held in
        let waits = first_out stands shape.first.value.items k.world r s.homes s.views id me.0 after (world_kept stands shape s k) to_begin started others view (at_table shape id place me r 0 threads rows wide inside (omega arith) here) (λ q b. began_before q b) (k.housed some_first) in
        let moved : Keeps stands shape (stepped s place (slice_index s.words place) id me.1 after (takes_it r.thread (Some waits.value))) =
        keeps_seen stands shape s k id me.0 after _ (slice_set s.homes r.thread none) view (at_table shape id place me r 0 threads rows wide inside (omega arith) here) refl refl refl refl (refl, refl, refl, refl, refl, λ q. ⊎_elim (λ (e : r ≡ q). inr (subst (λ (x : Row). Has me.0.seen.held x) e held)) (λ (old : Has me.0.seen.begun q). inl old)) (set-get_or s.words place 0) (knows_begun k.world k.owner id me.0 r knows)
        (λ again. housed_begin stands shape.first.value.items k.world r s.homes s.views id me.0 after (world_kept stands shape s k) to_begin started others view (at_table shape id place me r 0 threads rows wide inside (omega arith) here) (λ q b. began_before q b) (k.housed some_first)) in (
          after,
          takes_it r.thread (Some waits.value),
          waits.home,
          moved,
          λ q at.
              let same = (one_word shape id place me r 0 threads rows wide inside (omega arith) here q 0 (omega arith) at.0 at.1).0 in (
                waits.value,
                ap (λ (l : List (Option M)). slice_get l q.thread) firsts ∙ ap (λ (z : Row). slice_get shape.first.value.items z.thread) (sym same) ∙ waits.is_first,
                ap (λ (z : Row). (began z me.0, (z.thread, Some waits.value) ∷ me.1)) same,
                with_itself k.world k.owner id after (knows_begun k.world k.owner id me.0 r knows) (world_kept stands shape s k) (open_words stands shape s k wide),
              ),
        )
      where
        began_before : (q : Row) → IsToBegin (began r me.0) q → IsToBegin me.0 q × (q ≢ r)
        began_before q b = ((b.0, b.1, (λ h. b.2 (inr h))), λ e. b.2 (inl (sym e)))

    -- a row that this call has claimed
    pub yield_allowed : me.0.stage ≡ Claims r → Has me.0.seen.held r → place ≡ short_place shape.layout r 0
        → Allows (Keeps stands shape) slots id me place (λ n. cell_word Waiting) (λ n. yielded (step slots place (cell_word Waiting) 0 none) me (cell_word Waiting))
    yield_allowed claiming held here s k homes view range =
        let after = did (Yield r) (turned Resting r me.0) in
        let moved : Keeps stands shape (stepped s place (cell_word Waiting) id me.1 after keeps) = yields shape id place me r 0 threads rows wide inside (omega arith) here s k view refl claiming held in (
          after,
          keeps,
          tt,
          moved,
          λ q at. (
            ap (λ (z : Row). (did (Yield z) (turned Resting z me.0), me.1)) (one_word shape id place me r 0 threads rows wide inside (omega arith) here q 0 (omega arith) at.0 at.1).0,
            agreed shape id place me r 0 threads rows wide inside (omega arith) here s k view (cell_word Waiting) after refl moved,
          ),
        )

    -- a held row: where it is Waiting, it is this call's
    pub claim_allowed : me.0.stage ≡ Resting → Has me.0.seen.held r → place ≡ short_place shape.layout r 0
        → Allows (Keeps stands shape) slots id me place (λ n. either (eqb n (cell_word Waiting)) (cell_word Claimed) n) (claimed (step slots place (cell_word Waiting) (cell_word Claimed) none) me)
    claim_allowed resting held here s k homes view range =
        let n = slice_index s.words place in
        let read = cell_is shape id place me r 0 threads rows wide inside (omega arith) here s k view refl in
        let knows = known shape id place me r 0 threads rows wide inside (omega arith) here s k view in
        let one : (q : Row) → At (step {S = Option M} slots place (cell_word Waiting) (cell_word Claimed) none) me q 0 → r ≡ q = λ q at. (one_word shape id place me r 0 threads rows wide inside (omega arith) here q 0 (omega arith) at.0 at.1).0 in
        exchanged n (cell_word Waiting) (cell_word Claimed)
        (λ x. (w : View M) × (a : Act (Option M)) × Valid s.homes me.1 a × Keeps stands shape (stepped s place x id me.1 w a) × claimed (step slots place (cell_word Waiting) (cell_word Claimed) none) me n (w, carried_after me.1 a))
        (λ e.
        let after = did (Claim r) (turned (Claims r) r me.0) in
        let moved : Keeps stands shape (stepped s place (cell_word Claimed) id me.1 after keeps) = claims shape id place me r 0 threads rows wide inside (omega arith) here s k view refl resting held (read ∙ ap cell_read e ∙ waiting_read) in (
          after,
          keeps,
          tt,
          moved,
          λ q at. (
            λ f. ap (λ (z : Row). (did (Claim z) (turned (Claims z) z me.0), me.1)) (one q at),
            λ f. absurd (f e),
            agreed shape id place me r 0 threads rows wide inside (omega arith) here s k view (cell_word Claimed) after refl moved,
          ),
        ))
        (λ f.
        let moved : Keeps stands shape (stepped s place n id me.1 (saw r (cell_read n) me.0) keeps) =
        learnt shape id place me r 0 threads rows wide inside (omega arith) here s k view (saw r (cell_read n) me.0) refl refl refl refl (saw_stays r (cell_read n) me.0) (saw_begins shape id place me r 0 threads rows wide inside (omega arith) here s k view (cell_read n)) (learn_cell k.world k.owner id me.0 r (cell_read n) knows read) in
        let agrees_now = agreed shape id place me r 0 threads rows wide inside (omega arith) here s k view n (saw r (cell_read n) me.0) refl moved in (
          saw r (cell_read n) me.0,
          keeps,
          tt,
          moved,
          λ q at. (λ e. absurd (f e), λ g. seen_there k.world k.owner id me r q (cell_read n) (world_kept stands shape s k) knows read (one q at), agrees_now),
        ))

  module _ (shape : Shape M) (slots id place : ℕ) (me : Me (Option M) (View M)) (r : Row)
      (threads : me.0.threads ≡ shape.threads) (rows : me.0.rows ≡ shape.rows) (wide : me.0.layout ≡ shape.layout)
      (inside : Inside shape.threads shape.rows shape.layout r) where
    -- another row: where it is Waiting, it is joined with the row that this call has claimed
    pub join_allowed : (mine : Row) (own partner : ℕ) (j : Joined) → me.0.stage ≡ Claims mine → Has me.0.seen.held mine → CanJoin me.0.seen mine own r partner j → IsJoinedInRange j → place ≡ short_place shape.layout r 0
        → Allows (Keeps stands shape) slots id me place (λ n. either (eqb n (cell_word Waiting)) (cell_word (Synched j)) n) (joined (step slots place (cell_word Waiting) (cell_word (Synched j)) none) me)
    join_allowed mine own partner j claiming held can in_range here s k homes view range =
        let n = slice_index s.words place in
        let read = cell_is shape id place me r 0 threads rows wide inside (omega arith) here s k view refl in
        let knows = known shape id place me r 0 threads rows wide inside (omega arith) here s k view in
        let one : (q : Row) → At (step {S = Option M} slots place (cell_word Waiting) (cell_word (Synched j)) none) me q 0 → r ≡ q = λ q at. (one_word shape id place me r 0 threads rows wide inside (omega arith) here q 0 (omega arith) at.0 at.1).0 in
        exchanged n (cell_word Waiting) (cell_word (Synched j))
        (λ x. (w : View M) × (a : Act (Option M)) × Valid s.homes me.1 a × Keeps stands shape (stepped s place x id me.1 w a) × joined (step slots place (cell_word Waiting) (cell_word (Synched j)) none) me n (w, carried_after me.1 a))
        (λ e.
        let after = did (Join mine own r partner) (saw r (Synched j) (turned (Joins mine r j) r me.0)) in
        let moved : Keeps stands shape (stepped s place (cell_word (Synched j)) id me.1 after keeps) =
        joins shape id place me r 0 threads rows wide inside (omega arith) here s k view refl mine own partner j claiming held can (read ∙ ap cell_read e ∙ waiting_read) in (
          after,
          keeps,
          tt,
          moved,
          λ m i_own q i stage partner_of at i_range second. (
            λ f. let same = one_joined j i in_range i_range second in
                let row = one q at in
                let my : mine ≡ m = one_claim mine m (sym claiming ∙ stage) in
                let both : Some (mine, own) ≡ Some (m, i_own) = sym (ap (λ (z : Joined). z.partner) can.is) ∙ ap (λ (z : Joined). z.partner) same ∙ partner_of in
                let my_own : own ≡ i_own = ap (λ (z : Row × ℕ). z.1) (some_inj (mine, own) (m, i_own) both) in
                let theirs : partner ≡ i.own = sym (ap (λ (z : Joined). z.own) can.is) ∙ ap (λ (z : Joined). z.own) same in
                λ x. (did (Join (my x) (my_own x) (row x) (theirs x)) (saw (row x) (Synched (same x)) (turned (Joins (my x) (row x) (same x)) (row x) me.0)), me.1),
            λ f. absurd (f e),
            agreed shape id place me r 0 threads rows wide inside (omega arith) here s k view (cell_word (Synched j)) after refl moved,
          ),
        ))
        (λ f.
        let moved : Keeps stands shape (stepped s place n id me.1 (saw r (cell_read n) me.0) keeps) =
        learnt shape id place me r 0 threads rows wide inside (omega arith) here s k view (saw r (cell_read n) me.0) refl refl refl refl (saw_stays r (cell_read n) me.0) (saw_begins shape id place me r 0 threads rows wide inside (omega arith) here s k view (cell_read n)) (learn_cell k.world k.owner id me.0 r (cell_read n) knows read) in
        let agrees_now = agreed shape id place me r 0 threads rows wide inside (omega arith) here s k view n (saw r (cell_read n) me.0) refl moved in (
          saw r (cell_read n) me.0,
          keeps,
          tt,
          moved,
          λ m i_own q i stage partner_of at i_range second. (λ e. absurd (f e), λ g. seen_there k.world k.owner id me r q (cell_read n) (world_kept stands shape s k) knows read (one q at), agrees_now),
        ))
      where
        one_claim : (a b : Row) → Claims a ≡ Claims b → a ≡ b
        one_claim a b e = ap (λ (z : Stage). row_in z) e
          where
            row_in : Stage → Row
            row_in Resting = a
            row_in Aside = a
            row_in Left = a
            row_in (Claims m) = m
            row_in (Joins m o j) = m

    -- a row that is committed alone, where it is Waiting
    pub grant_allowed : (n : ℕ) (j : Joined) → me.0.stage ≡ Resting → CanGrant me.0.seen r n j → IsJoinedInRange j → place ≡ short_place shape.layout r 0
        → Allows (Keeps stands shape) slots id me place (λ x. either (eqb x (cell_word Waiting)) (cell_word (Synched j)) x) (granted (step slots place (cell_word Waiting) (cell_word (Synched j)) none) me)
    grant_allowed n j resting can in_range here s k homes view range =
        let x = slice_index s.words place in
        let read = cell_is shape id place me r 0 threads rows wide inside (omega arith) here s k view refl in
        let knows = known shape id place me r 0 threads rows wide inside (omega arith) here s k view in
        let one : (q : Row) → At (step {S = Option M} slots place (cell_word Waiting) (cell_word (Synched j)) none) me q 0 → r ≡ q = λ q at. (one_word shape id place me r 0 threads rows wide inside (omega arith) here q 0 (omega arith) at.0 at.1).0 in
        exchanged x (cell_word Waiting) (cell_word (Synched j))
        (λ y. (w : View M) × (a : Act (Option M)) × Valid s.homes me.1 a × Keeps stands shape (stepped s place y id me.1 w a) × granted (step slots place (cell_word Waiting) (cell_word (Synched j)) none) me x (w, carried_after me.1 a))
        (λ e.
        let waits = read ∙ ap cell_read e ∙ waiting_read in
        let after = did (Grant r n) (settled r j me.0) in
        let moved : Keeps stands shape (stepped s place (cell_word (Synched j)) id me.1 after keeps) =
        grants shape id place me r 0 threads rows wide inside (omega arith) here s k view refl n j resting can waits in (
          after,
          keeps,
          tt,
          moved,
          λ q i rests at i_range second. (
            λ f. let same = one_joined j i in_range i_range second in
                let row = one q at in
                let own : n ≡ i.own = sym (ap (λ (z : Joined). z.own) can.is) ∙ ap (λ (z : Joined). z.own) same in
                ((λ z. (did (Grant (row z) (own z)) (settled (row z) (same z) me.0), me.1)), (seen_there k.world k.owner id me r q Waiting (world_kept stands shape s k) knows waits row).1),
            λ f. absurd (f e),
            agreed shape id place me r 0 threads rows wide inside (omega arith) here s k view (cell_word (Synched j)) after refl moved,
          ),
        ))
        (λ f.
        let moved : Keeps stands shape (stepped s place x id me.1 (saw r (cell_read x) me.0) keeps) =
        learnt shape id place me r 0 threads rows wide inside (omega arith) here s k view (saw r (cell_read x) me.0) refl refl refl refl (saw_stays r (cell_read x) me.0) (saw_begins shape id place me r 0 threads rows wide inside (omega arith) here s k view (cell_read x)) (learn_cell k.world k.owner id me.0 r (cell_read x) knows read) in
        let agrees_now = agreed shape id place me r 0 threads rows wide inside (omega arith) here s k view x (saw r (cell_read x) me.0) refl moved in (
          saw r (cell_read x) me.0,
          keeps,
          tt,
          moved,
          λ q i rests at i_range second. (λ e. absurd (f e), λ g. seen_there k.world k.owner id me r q (cell_read x) (world_kept stands shape s k) knows read (one q at), agrees_now),
        ))

    -- a committed row, where it is Synched: it is taken
    pub take_allowed : slots ≡ length shape.first.value.items → me.0.stage ≡ Resting → (j : Joined) → IsJoinedInRange j → place ≡ short_place shape.layout r 0
        → Allows (Keeps stands shape) slots id me place (λ x. either (eqb x (cell_word (Synched j))) (cell_word (Taken j)) x) (taken stands (step slots place (cell_word (Synched j)) (cell_word (Taken j)) none) me)
    take_allowed count resting j in_range here s k homes view range =
        exchanged x (cell_word (Synched j)) (cell_word (Taken j))
        (λ y. (w : View M) × (a : Act (Option M)) × Valid s.homes me.1 a × Keeps stands shape (stepped s place y id me.1 w a) × taken stands (step slots place (cell_word (Synched j)) (cell_word (Taken j)) none) me x (w, carried_after me.1 a))
        (λ e. by_slots e (some_or_none shape.first.value.items))
        (λ f.
        let moved : Keeps stands shape (stepped s place x id me.1 (saw r (cell_read x) me.0) keeps) =
        learnt shape id place me r 0 threads rows wide inside (omega arith) here s k view (saw r (cell_read x) me.0) refl refl refl refl (saw_stays r (cell_read x) me.0) (saw_begins shape id place me r 0 threads rows wide inside (omega arith) here s k view (cell_read x)) (learn_cell k.world k.owner id me.0 r (cell_read x) knows read) in
        let agrees_now = agreed shape id place me r 0 threads rows wide inside (omega arith) here s k view x (saw r (cell_read x) me.0) refl moved in (
          saw r (cell_read x) me.0,
          keeps,
          tt,
          moved,
          λ q i at i_range second. (
            λ e. absurd (f (e ∙ ap (λ (z : Joined). cell_word (Synched z)) (sym (one_taken j i in_range i_range second)))),
            λ g. seen_there k.world k.owner id me r q (cell_read x) (world_kept stands shape s k) knows read (one q at),
            agrees_now,
          ),
        ))
      where
        x : ℕ
        x = slice_index s.words place

        read : cell_at k.world.table r ≡ cell_read (slice_index s.words place)
        read = cell_is shape id place me r 0 threads rows wide inside (omega arith) here s k view refl

        knows : Knows k.world k.owner id me.0
        knows = known shape id place me r 0 threads rows wide inside (omega arith) here s k view

        firsts : me.0.first ≡ shape.first.value.items
        firsts = ap (λ (z : List (Option M) × Opening × Layout). z.0) (k.firsts id me.0 view (at_table shape id place me r 0 threads rows wide inside (omega arith) here))

        one : (q : Row) → At (step {S = Option M} slots place (cell_word (Synched j)) (cell_word (Taken j)) none) me q 0 → r ≡ q
        one q at = (one_word shape id place me r 0 threads rows wide inside (omega arith) here q 0 (omega arith) at.0 at.1).0

        synched : (e : x ≡ cell_word (Synched j)) → cell_at k.world.table r ≡ Synched j
        synched e = read ∙ ap cell_read e ∙ ap (λ (o : Option Cell). unwrap_or o Fresh) (cell_of-cell_word (Synched j) in_range)

        joined_here : (e : x ≡ cell_word (Synched j)) → ledger_joined (ledger_of k.world.table) r ≡ Some j
        joined_here e = ap (λ (f : Row → Option Joined). f r) (joined_in_ledger k.world.table) ∙ ap joined_of (synched e)

        has : (e : x ≡ cell_word (Synched j)) → (results : List Result) × (length results ≡ r.sync + 1) × AreResults (ledger_of k.world.table) r.thread results
        has e = joined-results (ledger_of k.world.table) r j (lawful_ledger k.world.table (world_kept stands shape s k).linked) (joined_here e)

        after : (e : x ≡ cell_word (Synched j)) → View M
        after e = did (Take r) (took_with r j (has e).0 me.0)

        told : (e : x ≡ cell_word (Synched j)) → (c : List (ℕ × Option M)) → ComesOut stands me.0.first me.0.seen (after e).seen r j.own (has e).0 me.1 c → AgreesWithItself (after e) → taken stands (step slots place (cell_word (Synched j)) (cell_word (Taken j)) none) me x (after e, c)
        told e c out agree q i at i_range second =
            let same = one_taken j i in_range i_range second in
            let row = one q at in (
              λ f. (
                (has e).0,
                (has e).1 ∙ ap (λ (z : Row). z.sync + 1) row,
                (λ z. did (Take (row z)) (took_with (row z) (same z) (has e).0 me.0)),
                subst (λ (z : Row × Joined). ComesOut stands me.0.first me.0.seen (after e).seen z.0 z.1.own (has e).0 me.1 c) (λ y. (row y, same y)) out,
                subst (λ (z : Joined). Agrees me.0 q (Synched z)) same (seen_there k.world k.owner id me r q (Synched j) (world_kept stands shape s k) knows (synched e) row).1,
                λ o. let open_next : is_fresh (cell_at k.world.table (next_row r)) ≡ false = knows.opened (next_row r) (subst (λ (z : Row). Has me.0.seen.opened (next_row z)) (sym row) o) in
                    false≢true (sym open_next ∙ next_unopened k.world (record { 0 = me.0.seat }) r j (world_kept stands shape s k) (synched e)),
                λ o. goes_on k.world (record { 0 = me.0.seat }) r j (world_kept stands shape s k) (synched e) o.0 (knows.ended r.thread o.0 (subst (λ (z : Row). Has me.0.seen.ended (z.thread, o.0)) (sym row) o.1)),
                λ n b h at_next. next_unbound k.world (record { 0 = me.0.seat }) r j (world_kept stands shape s k) (synched e) n b
                    (bindings_after k.world (record { 0 = me.0.seat }) r j (world_kept stands shape s k) (synched e) n ∙ knows.bound n b h) (at_next ∙ ap next_row (sym row)),
              ),
              λ f. absurd (f (e ∙ ap (λ (z : Joined). cell_word (Synched z)) same)),
              agree,
            )

        by_slots : (e : x ≡ cell_word (Synched j)) → (length shape.first.value.items ≡ 0) ⊎ (0 < length shape.first.value.items)
            → (w : View M) × (a : Act (Option M)) × Valid s.homes me.1 a × Keeps stands shape (stepped s place (cell_word (Taken j)) id me.1 w a) × taken stands (step slots place (cell_word (Synched j)) (cell_word (Taken j)) none) me x (w, carried_after me.1 a)
        by_slots e (inl empty) =
            let moved : Keeps stands shape (stepped s place (cell_word (Taken j)) id me.1 (after e) keeps) = takes_bare shape id place me r 0 threads rows wide inside (omega arith) here s k view j (synched e) refl resting (has e).0 (has e).2 empty in (
              after e,
              keeps,
              tt,
              moved,
              told e me.1 ((λ z. refl), λ filled. absurd (let same : length me.0.first ≡ 0 = ap (λ (l : List (Option M)). length l) firsts ∙ empty in omega arith))
                  (agreed shape id place me r 0 threads rows wide inside (omega arith) here s k view (cell_word (Taken j)) (after e) refl moved),
            )
        by_slots e (inr some_first) =
            let home = at_home shape id place me r 0 threads rows wide inside (omega arith) here s k view j (synched e) refl resting (has e).0 (has e).2 some_first in
            let moved : Keeps stands shape (stepped s place (cell_word (Taken j)) id me.1 (after e) (takes_it r.thread (Some home.value))) = takes_out shape id place me r 0 threads rows wide inside (omega arith) here s k view j (synched e) refl resting (has e).0 (has e).2 some_first in
            let out = comes_out stands shape.first.value.items k.world k.owner id me.0 knows (world_kept stands shape s k) r j (has e).0 home.value (ap joined_of (synched e)) (has e).1 (has e).2 home.offers in (
              after e,
              takes_it r.thread (Some home.value),
              home.home,
              moved,
              told e ((r.thread, Some home.value) ∷ me.1) (
                (λ z. absurd (let same : length me.0.first ≡ length shape.first.value.items = ap (λ (l : List (Option M)). length l) firsts in omega arith)),
                λ filled. (home.value, out.0, refl, subst (λ (l : List (Option M)). IsLeft stands l home.value r j.own (has e).0 out.0) (sym firsts) out.1, out.2, sees_since shape id place me r 0 threads rows wide inside (omega arith) here s k view j (synched e) refl resting (has e).0 (has e).2 (has e).1 out.0 out.1.earlier out.1.whole out.1.count),
              )
                  (moved_coherent stands shape s.views _ _ id me.0 (after e) view refl (at_table shape id place me r 0 threads rows wide inside (omega arith) here) moved),
            )

    -- a row that this call has claimed, and joined with another
    pub seal_allowed : (other : Row) (own : ℕ) (j : Joined) → me.0.stage ≡ Joins r other j → j.partner ≡ Some (r, own) → Has me.0.seen.held r → IsJoinedInRange (mirrored other j own) → place ≡ short_place shape.layout r 0
        → Allows (Keeps stands shape) slots id me place (λ n. cell_word (Synched (mirrored other j own))) (λ n. sealed (step slots place (cell_word (Synched (mirrored other j own))) 0 none) me (cell_word (Synched (mirrored other j own))))
    seal_allowed other own j joining_now partner_is held in_range here s k homes view range =
        let after = did (Seal r) (settled r (mirrored other j own) me.0) in
        let moved : Keeps stands shape (stepped s place (cell_word (Synched (mirrored other j own))) id me.1 after keeps) =
        seals shape id place me r 0 threads rows wide inside (omega arith) here s k view refl other own j joining_now partner_is held in (
          after,
          keeps,
          tt,
          moved,
          λ q i at i_range e. (
            (λ x. (did (Seal ((one q at) x)) (settled ((one q at) x) ((one_joined (mirrored other j own) i in_range i_range e) x) me.0), me.1)),
            agreed shape id place me r 0 threads rows wide inside (omega arith) here s k view (cell_word (Synched (mirrored other j own))) after refl moved,
          ),
        )
      where
        one : (q : Row) → At (step {S = Option M} slots place (cell_word (Synched (mirrored other j own))) 0 none) me q 0 → r ≡ q
        one q at = (one_word shape id place me r 0 threads rows wide inside (omega arith) here q 0 (omega arith) at.0 at.1).0

module _ {M : Type 0} where
  -- the row is inside the table that the view speaks of
  pub at_view : (shape : Shape M) (v : View M) (r : Row) → v.threads ≡ shape.threads → v.rows ≡ shape.rows → v.layout ≡ shape.layout → Inside shape.threads shape.rows shape.layout r → Inside v.threads v.rows v.layout r
  at_view shape v r threads rows wide inside = subst (λ (z : ℕ × ℕ × Layout). Inside z.0 z.1 z.2 r) (λ i. (sym threads i, sym rows i, sym wide i)) inside

  pub place_view : (shape : Shape M) (v : View M) (r : Row) (p place : ℕ) → v.layout ≡ shape.layout → place ≡ short_place shape.layout r p → place ≡ short_place v.layout r p
  place_view shape v r p place wide e = e ∙ (λ i. short_place (sym wide i) r p)

  -- a pass that has moved still sits at its table
  pub sits_still : (b : Board M) (old new : Seat (Option M) (View M)) → Sits b old → new.table_id ≡ old.table_id → new.me.0.threads ≡ old.me.0.threads → new.me.0.rows ≡ old.me.0.rows → new.me.0.layout ≡ old.me.0.layout → new.me.0.first ≡ old.me.0.first → new.me.0.lives ≡ old.me.0.lives → new.me.0.nacks ≡ old.me.0.nacks → AgreesWithItself new.me.0 → Sits b new
  sits_still b old new sits table threads rows wide first lives nacks agree =
      let same_threads = threads ∙ sits.1 in
      let same_rows = rows ∙ sits.2 in
      (table ∙ sits.0, same_threads, same_rows, subst (λ (z : ℕ × ℕ). Coherent z.0 z.1 new.me.0.seen) (λ i. (same_threads i, same_rows i)) agree.0, first ∙ sits.4, lives ∙ sits.5, nacks ∙ sits.6, subst (λ (o : Opening). AreSettled o new.me.0.seen) (λ i. record { threads = (lives ∙ sits.5) i; nacks = (nacks ∙ sits.6) i }) agree.1, wide ∙ sits.8, subst (λ (y : Layout). OpenHaveWords y new.me.0.seen) (wide ∙ sits.8) agree.2)

-- no other word reads as a cell that is not Fresh
pub not_cell : (c : Cell) (n : ℕ) → c ≢ Fresh → n ≢ cell_word c → cell_read n ≢ c
not_cell c n opened h e = ⊎_elim
    (λ (none : cell_of n ≡ None). opened (sym e ∙ ap (λ (o : Option Cell). unwrap_or o Fresh) none))
    (λ (d : (d : Cell) × (cell_of n ≡ Some d)).
    let is : d.0 ≡ c = sym (ap (λ (o : Option Cell). unwrap_or o Fresh) d.1) ∙ e in
    h ((cell_word-cell_of n d.0 d.1).1 ∙ ap cell_word is))
    (cases_Option (cell_of n))

pub not_waiting : (n : ℕ) → n ≢ cell_word Waiting → cell_read n ≢ Waiting
not_waiting n = not_cell Waiting n (λ e. let bad : Waiting ≡ Fresh = e in cc)
