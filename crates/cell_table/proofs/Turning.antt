-- The rule of the table is kept by a call that learns, and by a step of the protocol.
use Rattle.std.proofs.Common.{slice_set, Option, ◌⊎◌, ◌≡◌, ◌≢◌, ◌<◌, ◌≤◌, ℕ, zero, suc, Bool, cond, List, [], ◌∷◌, length, sym, refl, ap, ◌∙◌, subst, inl, inr, ⊎_elim, arith, false}
use Rattle.std.proofs.lemmas.Bool.{cases_lt, eq-eqb, ne_eqb}
use Rattle.std.proofs.lemmas.List.{length-set}
use Rattle.std.proofs.lemmas.Option.{none-some}
use mathlib.Core.Option.{Option as Maybe, some}
use lib.ListN.{get_elem?}
use Rattle.atomic_table.specs.Table.{State}
use Rattle.atomic_table.proofs.Lists.{at_set}
use Rattle.protocol_values.specs.declared.Seat.{Seat}
use Rattle.protocol_values.specs.declared.Step.{Step}
use Rattle.protocol_values.specs.declared.Row.{Row}
use Rattle.protocol_ledger.specs.Acting.{DoesAt, EndedAs, StartedAs, acts_in}
use Rattle.protocol_ledger.specs.Growing.{GrowsTo}
use Rattle.protocol_ledger.specs.Ledgers.{Ledger, ledger_of}
use Rattle.protocol_ledger.specs.Standing.{AreResults, Result, Stands}
use Rattle.protocol_ledger.specs.Tables.{Table, cell_at, is_fresh}
use Rattle.protocol_ledger.specs.Openings.{HadEnded, HadStarted, Opening, greatest}
use Rattle.protocol_ledger.specs.Worlds.{World, Allowed, after_step}
use Rattle.protocol_ledger.proofs.Acting.{ends-step, starts-step}
use Rattle.protocol_ledger.proofs.Onward.{grows-step}
use Rattle.protocol_ledger.proofs.Standing.{results-stay}
use Rattle.protocol_ledger.proofs.Playing.{plays_more}
use Rattle.cell_table.specs.declared.view.View.{View}
use Rattle.cell_table.specs.declared.view.Shape.{Shape}
use Rattle.cell_table.specs.Sight.{Has}
use Rattle.cell_table.specs.Told.{AgreesWithItself}
use Rattle.cell_table.specs.Views.{Knows, did, opening_in}
use Rattle.cell_table.proofs.Truths.{with_itself}
use Rattle.protocol_ledger.specs.Kept.{Kept}
use Rattle.protocol_ledger.proofs.Keeping.{kept_schedule}
use Rattle.protocol_ledger.proofs.LedgerLemmas.{kept_opening}
use Rattle.cell_table.specs.Rule.{Housed, Interleaves, IsActing, IsToBegin, Keeps, Move, at_seat, beginning, in_order, steps_by}
use Rattle.cell_table.proofs.Courses.{KeepsLives, plain_lives}
use Rattle.protocol_ledger.specs.declared.layout.Layout.{Layout}
use Rattle.protocol_ledger.proofs.Sheets.{missing_fresh, open_has_words}
use Rattle.protocol_values.specs.declared.Cell.TheVariants.{Fresh}
use Rattle.protocol_ledger.specs.Short.{HasWords, rows_of, wide_table}
use Rattle.cell_table.proofs.Counts.{DraftsFew, few_step}
use Rattle.cell_table.proofs.Housing.{LeavesHomes, housed_step, housed_view}
use Rattle.cell_table.proofs.Leaving.{gathers_set}
use Rattle.cell_table.proofs.Seating.{MovesOn, Stays, seated_seen, seated_step}

module _ {M : Type 0} where
  -- what all views say of a world, one of them being new
  views_with : (vs : List (View M)) (id : ℕ) (w : View M) (world : World) (owner : Row → ℕ)
      → ((j : ℕ) (u : View M) → j ≢ id → get_elem? vs j ≡ some u → 0 < u.threads → Knows world owner j u)
      → Knows world owner id w
      → (j : ℕ) (u : View M) → get_elem? (slice_set vs id w) j ≡ some u → 0 < u.threads → Knows world owner j u
  views_with vs id w world owner others mine j u e at_table = ⊎_elim
      (λ (h : (j ≡ id) × (w ≡ u)). subst (λ (z : ℕ × (View M)). Knows world owner z.0 z.1) (λ i. (sym h.0 i, h.1 i)) mine)
      (λ (h : (j ≢ id) × (get_elem? vs j ≡ some u)). others j u h.0 h.1 at_table)
      (at_set vs id j w u e)

  -- what all views have of results, one of them being new
  pub results_with : (vs : List (View M)) (id : ℕ) (w : View M) (l : Ledger)
      → ((j : ℕ) (u : View M) (t : ℕ) (rs : List Result) → j ≢ id → get_elem? vs j ≡ some u → Has u.results (t, rs) → AreResults l t rs)
      → ((t : ℕ) (rs : List Result) → Has w.results (t, rs) → AreResults l t rs)
      → (j : ℕ) (u : View M) (t : ℕ) (rs : List Result) → get_elem? (slice_set vs id w) j ≡ some u → Has u.results (t, rs) → AreResults l t rs
  results_with vs id w l others mine j u t rs e h = ⊎_elim
      (λ (a : (j ≡ id) × (w ≡ u)). mine t rs (subst (λ (z : View M). Has z.results (t, rs)) (sym a.1) h))
      (λ (a : (j ≢ id) × (get_elem? vs j ≡ some u)). others j u t rs a.0 a.1 h)
      (at_set vs id j w u e)

  -- THE HISTORY AND THE PASSES' STEPS
  -- a pass that is among the views has a number below theirs
  pub below_views : (vs : List (View M)) (id : ℕ) (v : View M) → get_elem? vs id ≡ some v → id < length vs
  below_views [] id v e = absurd (mathlib.Core.Option.some-ne-none v (sym e))
  below_views (u ∷ vs) zero v e = omega arith
  below_views (u ∷ vs) (suc id) v e = let h = below_views vs id v e in omega arith

  -- one pass has seen more, and made what it had made
  pub same_made : (moves : List Move) (vs : List (View M)) (id : ℕ) (v w : View M) → get_elem? vs id ≡ some v → Interleaves moves vs → at_seat v.seat v.made ≡ at_seat w.seat w.made → Interleaves moves (slice_set vs id w)
  same_made moves vs id v w view before same = record {
    made = λ j u e. ⊎_elim
        (λ (h : (j ≡ id) × (w ≡ u)). ap (λ (n : ℕ). steps_by n moves) h.0 ∙ before.made id v view ∙ same ∙ ap (λ (z : View M). at_seat z.seat z.made) h.1)
        (λ (h : (j ≢ id) × (get_elem? vs j ≡ some u)). before.made j u h.1)
        (at_set vs id j w u e);
    no_others = λ j h. before.no_others j (subst (λ (n : ℕ). n ≤ j) (length-set vs id w) h);
  }

  -- it has made one step more
  pub one_more : (moves : List Move) (vs : List (View M)) (id : ℕ) (v w : View M) (step : Step) → get_elem? vs id ≡ some v → Interleaves moves vs → w.seat ≡ v.seat → w.made ≡ v.made
      → Interleaves (record { pass = id; seat = record { 0 = v.seat }; step = step } ∷ moves) (slice_set vs id (did step w))
  one_more moves vs id v w step view before seat made = record {
    made = λ j u e. ⊎_elim
        (λ (h : (j ≡ id) × (did step w ≡ u)).
        ap (λ (b : Bool). cond b ((record { 0 = v.seat }, step) ∷ steps_by j moves) (steps_by j moves)) (eq-eqb id j (sym h.0))
        ∙ ap (λ (l : List (Seat × Step)). (record { 0 = v.seat }, step) ∷ l) (ap (λ (n : ℕ). steps_by n moves) h.0 ∙ before.made id v view)
        ∙ (λ i. at_seat (sym seat i) (step ∷ sym made i)) ∙ ap (λ (z : View M). at_seat z.seat z.made) h.1)
        (λ (h : (j ≢ id) × (get_elem? vs j ≡ some u)).
        ap (λ (b : Bool). cond b ((record { 0 = v.seat }, step) ∷ steps_by j moves) (steps_by j moves)) (ne_eqb id j (λ f. h.0 (sym f))) ∙ before.made j u h.1)
        (at_set vs id j (did step w) u e);
    no_others = λ j h.
        let size = length-set vs id (did step w) in
        let low = below_views vs id v view in
        let above : length vs ≤ j = subst (λ (n : ℕ). n ≤ j) size h in
        ap (λ (b : Bool). cond b ((record { 0 = v.seat }, step) ∷ steps_by j moves) (steps_by j moves)) (ne_eqb id j (λ f. let g : id ≡ j = f in omega arith)) ∙ before.no_others j above;
  }

  -- what all views have at first, one of them being new
  pub firsts_with : (vs : List (View M)) (id : ℕ) (v w : View M) (first : List (Option M) × Opening × Layout) → get_elem? vs id ≡ some v → beginning w ≡ beginning v → 0 < v.threads
      → ((j : ℕ) (u : View M) → get_elem? vs j ≡ some u → 0 < u.threads → beginning u ≡ first)
      → (j : ℕ) (u : View M) → get_elem? (slice_set vs id w) j ≡ some u → 0 < u.threads → beginning u ≡ first
  firsts_with vs id v w first view same at_table all j u e t = ⊎_elim
      (λ (a : (j ≡ id) × (w ≡ u)). ap (λ (z : View M). beginning z) (sym a.1) ∙ same ∙ all id v view at_table)
      (λ (a : (j ≢ id) × (get_elem? vs j ≡ some u)). all j u a.1 t)
      (at_set vs id j w u e)

module _ {M : Type 0} (stands : Stands M) where
  -- the world of the rule is one that all steps keep
  pub world_kept : (shape : Shape M) (s : State (Option M) (View M)) (k : Keeps stands shape s) → Kept k.world
  world_kept shape s k = kept_schedule k.start k.world (in_order k.moves) (kept_opening (opening_in shape) shape.rows shape.passes k.start k.opens k.few_rows k.begins) k.played

  -- what somebody does at a place, he does there by the ledger of a table that has grown
  pub does_now : (shape : Shape M) (s : State (Option M) (View M)) (k : Keeps stands shape s) (id : ℕ) (v : View M) (u : Table) (r : Row) (act : M → List Result → Type 0) → get_elem? s.views id ≡ some v → GrowsTo k.world.table u
      → IsActing stands v.results r act → DoesAt (ledger_of u) r (λ results. (value : M) × act value results)
  does_now shape s k id v u r act view grows a = record { results = a.earlier; count = a.count; are = are a.earlier a.seen; does = (a.value, a.does) }
    where
      are : (rs : List Result) → (rs ≡ []) ⊎ Has v.results (r.thread, rs) → AreResults (ledger_of u) r.thread rs
      are rs (inl e) = subst (AreResults (ledger_of u) r.thread) (sym e) (λ g x h. absurd (none-some x h))
      are rs (inr h) = results-stay k.world u r.thread rs (world_kept shape s k) grows (k.results id v r.thread rs view h)

  -- the table stays, and one pass knows more; what the slots hold then is given
  pub keeps_seen : (shape : Shape M) (s : State (Option M) (View M)) (k : Keeps stands shape s) (id : ℕ) (v w : View M) (ws : List ℕ) (hs : List (Maybe (Option M))) → get_elem? s.views id ≡ some v → 0 < v.threads → w.seat ≡ v.seat → w.made ≡ v.made → w.results ≡ v.results → beginning w ≡ beginning v → Stays v w
      → ws ≡ s.words → Knows k.world k.owner id w
      → (0 < length shape.first.value.items → Housed stands shape.first.value.items k.world hs (slice_set s.views id w))
      → Keeps stands shape (record { words = ws; homes = hs; views = slice_set s.views id w })
  keeps_seen shape s k id v w ws hs view at_table seat made seen first stays same knows house = record {
    opens = k.opens;
    few_rows = k.few_rows;
    fits = k.fits;
    sized = ap (λ (z : List ℕ). length z) same ∙ k.sized;
    counts = k.counts;
    moves = k.moves;
    interleaved = same_made k.moves s.views id v w view k.interleaved (λ i. at_seat (sym seat i) (sym made i));
    start = k.start;
    begins = k.begins;
    world = k.world;
    played = k.played;
    table = k.table ∙ ap (λ (z : List ℕ). wide_table shape.layout (record { threads = shape.threads; rows = shape.rows; words = z; opening = greatest (opening_in shape) })) (sym same);
    owner = k.owner;
    knows = views_with s.views id w k.world k.owner (λ j u n e t. k.knows j u e t) knows;
    seated = seated_seen s.views id v w view stays seat made k.seated;
    gathers = gathers_set s.views id v w view (ap (λ (z : ℕ × List (ℕ × List Step)). z.1) stays.1) (λ e. (stays.0, stays.3 ∙ e, seat, made)) k.gathers;
    firsts = firsts_with s.views id v w (shape.first.value.items, opening_in shape, shape.layout) view first at_table k.firsts;
    started = k.started;
    ended = k.ended;
    housed = house;
    results = results_with s.views id w (ledger_of k.world.table) (λ j u t rs n e h. k.results j u t rs e h) (λ t rs h. k.results id v t rs view (subst (λ (l : List (ℕ × List Result)). Has l (t, rs)) seen h));
  }

  -- where the slots are as they were
  pub keeps_view : (shape : Shape M) (s : State (Option M) (View M)) (k : Keeps stands shape s) (id : ℕ) (v w : View M) (ws : List ℕ) → get_elem? s.views id ≡ some v → 0 < v.threads → w.seat ≡ v.seat → w.made ≡ v.made → w.results ≡ v.results → beginning w ≡ beginning v → Stays v w
      → ((r : Row) → IsToBegin w r → IsToBegin v r) → ws ≡ s.words → Knows k.world k.owner id w → Keeps stands shape (record { words = ws; homes = s.homes; views = slice_set s.views id w })
  keeps_view shape s k id v w ws view at_table seat made seen first stays begins same knows =
      keeps_seen shape s k id v w ws s.homes view at_table seat made seen first stays same knows
      (λ some_first. housed_view stands shape.first.value.items k.world s.homes s.views id v w view at_table begins (k.housed some_first))

  -- the protocol's step is made by the pass at its seat, and it knows more; what the slots hold then is given
  pub keeps_housed : (shape : Shape M) (s : State (Option M) (View M)) (k : Keeps stands shape s) (id : ℕ) (v w : View M) (ws : List ℕ) (hs : List (Maybe (Option M))) (owner : Row → ℕ) → get_elem? s.views id ≡ some v → 0 < v.threads → w.seat ≡ v.seat → w.made ≡ v.made → beginning w ≡ beginning v
      → (step : Step) → (0 < length shape.first.value.items → StartedAs (acts_in stands shape.first.value.items).starts (after_step k.world (record { 0 = v.seat }) step).table step × EndedAs (acts_in stands shape.first.value.items).ends (after_step k.world (record { 0 = v.seat }) step).table step) → DraftsFew shape.layout.offers step → Allowed k.world (record { 0 = v.seat }) step → MovesOn v w step
      → ((t : ℕ) (rs : List Result) → Has w.results (t, rs) → Has v.results (t, rs) ⊎ AreResults (ledger_of (after_step k.world (record { 0 = v.seat }) step).table) t rs)
      → (after_step k.world (record { 0 = v.seat }) step).table ≡ wide_table shape.layout (record { threads = shape.threads; rows = shape.rows; words = ws; opening = greatest (opening_in shape) })
      → length ws ≡ length s.words
      → ((j : ℕ) (u : View M) → j ≢ id → get_elem? s.views j ≡ some u → 0 < u.threads → Knows (after_step k.world (record { 0 = v.seat }) step) owner j u)
      → Knows (after_step k.world (record { 0 = v.seat }) step) owner id w
      → (0 < length shape.first.value.items → Housed stands shape.first.value.items (after_step k.world (record { 0 = v.seat }) step) hs (slice_set s.views id (did step w)))
      → Keeps stands shape (record { words = ws; homes = hs; views = slice_set s.views id (did step w) })
  keeps_housed shape s k id v w ws hs owner view at_table seat made first step lives few allowed on seen same size others knows house =
      let at : Seat = record { 0 = v.seat } in
      let kept = world_kept shape s k in
      let grows = grows-step k.world at step kept allowed in
      let stays : (j t : ℕ) (u : View M) (rs : List Result) → get_elem? s.views j ≡ some u → Has u.results (t, rs) → AreResults (ledger_of (after_step k.world at step).table) t rs =
      λ j t u rs e h. results-stay k.world (after_step k.world at step).table t rs kept grows (k.results j u t rs e h) in
      record {
        opens = k.opens;
        few_rows = k.few_rows;
        fits = k.fits;
        sized = size ∙ k.sized;
        counts = few_step shape.layout.offers k.world at step kept allowed few k.counts;
        moves = record { pass = id; seat = at; step = step } ∷ k.moves;
        interleaved = one_more k.moves s.views id v w step view k.interleaved seat made;
        start = k.start;
        begins = k.begins;
        world = after_step k.world at step;
        played = plays_more k.start k.world (in_order k.moves) (at, step) k.played allowed;
        table = same;
        owner = owner;
        knows = views_with s.views id (did step w) (after_step k.world at step) owner others knows;
        seated = seated_step s.views id v w step view at_table seat made on k.seated;
        gathers = gathers_set s.views id v (did step w) view (let same = on.same in ap (λ (z : ℕ × List (ℕ × List Step)). z.1) same.1) (λ e. absurd (on.goes e)) k.gathers;
        firsts = firsts_with s.views id v (did step w) (shape.first.value.items, opening_in shape, shape.layout) view first at_table k.firsts;
        started = λ some_first. starts-step k.world at step kept allowed (HadStarted (opening_in shape)) (acts_in stands shape.first.value.items).starts (k.started some_first) (lives some_first).0;
        ended = λ some_first. ends-step k.world at step kept allowed (HadEnded (opening_in shape)) (acts_in stands shape.first.value.items).ends (k.ended some_first) (lives some_first).1;
        housed = house;
        results = results_with s.views id (did step w) (ledger_of (after_step k.world at step).table) (λ j u t rs n e h. stays j t u rs e h)
            (λ t rs h. ⊎_elim (λ (old : Has v.results (t, rs)). stays id t v rs view old) (λ (new : AreResults (ledger_of (after_step k.world at step).table) t rs). new) (seen t rs h));
      }

  -- where the step opens no row and takes none, and leaves the slots as they are
  pub keeps_step : (shape : Shape M) (s : State (Option M) (View M)) (k : Keeps stands shape s) (id : ℕ) (v w : View M) (ws : List ℕ) (owner : Row → ℕ) → get_elem? s.views id ≡ some v → 0 < v.threads → w.seat ≡ v.seat → w.made ≡ v.made → beginning w ≡ beginning v
      → ((r : Row) → IsToBegin w r → IsToBegin v r)
      → (step : Step) → LeavesHomes step → KeepsLives step → DraftsFew shape.layout.offers step → Allowed k.world (record { 0 = v.seat }) step → MovesOn v w step
      → ((t : ℕ) (rs : List Result) → Has w.results (t, rs) → Has v.results (t, rs) ⊎ AreResults (ledger_of (after_step k.world (record { 0 = v.seat }) step).table) t rs)
      → (after_step k.world (record { 0 = v.seat }) step).table ≡ wide_table shape.layout (record { threads = shape.threads; rows = shape.rows; words = ws; opening = greatest (opening_in shape) })
      → length ws ≡ length s.words
      → ((j : ℕ) (u : View M) → j ≢ id → get_elem? s.views j ≡ some u → 0 < u.threads → Knows (after_step k.world (record { 0 = v.seat }) step) owner j u)
      → Knows (after_step k.world (record { 0 = v.seat }) step) owner id w
      → Keeps stands shape (record { words = ws; homes = s.homes; views = slice_set s.views id (did step w) })
  keeps_step shape s k id v w ws owner view at_table seat made first begins step leaves lives few allowed on seen same size others knows =
      keeps_housed shape s k id v w ws s.homes owner view at_table seat made first step (λ some_first. plain_lives (acts_in stands shape.first.value.items).starts (acts_in stands shape.first.value.items).ends (after_step k.world (record { 0 = v.seat }) step).table step lives) few allowed on seen same size others knows
      (λ some_first. housed_step stands shape.first.value.items k.world (record { 0 = v.seat }) step s.homes s.views id (did step w) (world_kept shape s k) allowed leaves (λ q b. (k.housed some_first).waiting id v q view at_table (begins q b)) (k.housed some_first))

  -- an opened row has words
  pub open_words : (shape : Shape M) (s : State (Option M) (View M)) (k : Keeps stands shape s) → {y : Layout} → y ≡ shape.layout → (r : Row) → is_fresh (cell_at k.world.table r) ≡ false → HasWords y r
  open_words shape s k same r open_r = subst (λ (y : Layout). HasWords y r) (sym same) (open_has_words shape.layout shape.threads shape.rows s.words (greatest (opening_in shape)) k.fits k.sized r (ap (λ (t : Table). is_fresh (cell_at t r)) (sym k.table) ∙ open_r))

  -- and a row that has no words is Fresh
  pub missing_words : (shape : Shape M) (s : State (Option M) (View M)) (k : Keeps stands shape s) → {y : Layout} → y ≡ shape.layout → (r : Row) → (¬ HasWords y r) → cell_at k.world.table r ≡ Fresh
  missing_words shape s k same r none =
      ap (λ (t : Table). cell_at t r) k.table
      ∙ missing_fresh shape.layout shape.threads shape.rows s.words (greatest (opening_in shape)) k.fits k.sized r
      (λ its. ⊎_elim (λ (h : HasWords shape.layout r). absurd (none (subst (λ (y : Layout). HasWords y r) (sym same) h))) (λ (past : rows_of shape.layout r.thread ≤ r.sync). past) (cases_lt r.sync (rows_of shape.layout r.thread)))

  -- WHAT A PASS HAS SEEN agrees with itself, at any moment
  pub pass_coherent : (shape : Shape M) (s : State (Option M) (View M)) (k : Keeps stands shape s) (id : ℕ) (v : View M) → get_elem? s.views id ≡ some v → 0 < v.threads → AgreesWithItself v
  pass_coherent shape s k id v view at_table = with_itself k.world k.owner id v (k.knows id v view at_table) (world_kept shape s k) (open_words shape s k (ap (λ (b : List (Option M) × Opening × Layout). b.2) (k.firsts id v view at_table)))

  -- and so does what the pass that moved has seen since
  pub moved_coherent : (shape : Shape M) (vs : List (View M)) (ws : List ℕ) (hs : List (Maybe (Option M))) (id : ℕ) (v w : View M) → get_elem? vs id ≡ some v → w.threads ≡ v.threads → 0 < v.threads
      → Keeps stands shape (record { words = ws; homes = hs; views = slice_set vs id w }) → AgreesWithItself w
  moved_coherent shape vs ws hs id v w view size at_table k =
      pass_coherent shape (record { words = ws; homes = hs; views = slice_set vs id w }) k id w (get_set vs id w (below_views vs id v view)) (subst (λ (n : ℕ). 0 < n) (sym size) at_table)
    where
      get_set : (us : List (View M)) (j : ℕ) (u : View M) → j < length us → get_elem? (slice_set us j u) j ≡ some u
      get_set [] j u h = absurd (omega arith)
      get_set (x ∷ us) zero u h = refl
      get_set (x ∷ us) (suc j) u h = get_set us j u (omega arith)
