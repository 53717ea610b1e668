-- The words of a table at its end, and what their ledger says.
use Rattle.std.proofs.Common.{Option, Bool, true, false, inl, inr, ◌≡◌, ◌≢◌, ℕ, zero, suc, ◌+◌, ◌<◌, ◌≤◌, List, [], ◌∷◌, length, slice_index, slice_set, slice_get, get_or, sym, refl, ap, ◌∙◌, subst, ⊎_elim, arith, Some, None}
use Rattle.std.proofs.lemmas.List.{ext_get_or, get_or-set_same, get_or-set_other}
use Rattle.std.proofs.lemmas.Bool.{cases_Bool}
use mathlib.Core.Option.{some, none}
use lib.ListN.{get_elem?}
use Rattle.atomic_table.specs.Table.{Seen as SeenWith, Final}
use Rattle.protocol_values.specs.declared.Joined.{Joined}
use Rattle.protocol_values.specs.declared.Offer.{Offer}
use Rattle.protocol_values.specs.declared.NackName.{NackName}
use Rattle.protocol_values.specs.declared.Binding.{Binding}
use Rattle.protocol_values.specs.declared.Course.{Course}
use Rattle.protocol_values.specs.declared.Row.{Row}
use Rattle.protocol_values.specs.declared.Step.{Step}
use Rattle.protocol_values.specs.declared.Step.TheVariants.{Open, Take}
use Rattle.protocol_ledger.specs.Kept.{Kept, Linked}
use Rattle.protocol_ledger.specs.declared.opening.Life.{Life}
use Rattle.protocol_ledger.specs.declared.opening.Life.TheVariants as life
use Rattle.protocol_ledger.specs.Openings.{HadEnded, HadStarted, Opening, course_for, greatest, state_in, thread_in, word_for}
use Rattle.protocol_ledger.specs.Short.{Fits, HasWords, short_place, wide_table, words_below}
use Rattle.protocol_ledger.proofs.Short.{short_word}
use Rattle.protocol_ledger.specs.Tables.{Table, carried_by, cell_at, course_at, is_fresh, is_taken, joined_at, marks_at, offer_at, word_at}
use Rattle.protocol_ledger.proofs.Closing.{none_later}
use Rattle.protocol_ledger.proofs.Places.{row_from}
use Rattle.protocol_values.specs.Words.{cell_of}
use Rattle.protocol_values.specs.declared.Cell.TheVariants.{Fresh}
use Rattle.std.specs.Prelude.{if◌then◌else◌, unwrap_or}
use Rattle.std.proofs.lemmas.Option.{same_Some}
use Rattle.cell_table.specs.Closings.{AreInTurn, HandedOut, HasAll, IsHomeOf, IsOpenAt, MadeBy}
use Rattle.protocol_ledger.specs.Growing.{GoesOn, GrowsTo}
use Rattle.protocol_ledger.specs.Ledgers.{Ledger, ledger_of, IsLawful, binding_in, carried_in, course_in, joined_in, offer_in}
use Rattle.protocol_ledger.proofs.Acting.{first_course_at, start_stays}
use Rattle.protocol_ledger.proofs.Beginning.{first_carried, first_cell}
use Rattle.protocol_ledger.proofs.LedgerLemmas.{binding_in_ledger, carried_in_ledger, course_in_ledger, kept_opening, lawful_ledger, joined_in_ledger, offer_in_ledger, opening_in_ledger}
use Rattle.protocol_ledger.proofs.Onward.{grows-schedule}
use Rattle.protocol_ledger.specs.Standing.{AreResults, OffersAs, Result, SomeStands, Stands}
use Rattle.protocol_ledger.proofs.Standing.{stands-ledger}
use Rattle.cell_table.specs.declared.view.Stage.TheVariants.{Resting}
use Rattle.cell_table.specs.declared.view.View.{View}
use Rattle.cell_table.specs.declared.view.Shape.{Shape}
use Rattle.cell_table.specs.Sight.{Has, IsDraft, SeesOffer, SeesNoOffer}
use Rattle.protocol_ledger.specs.Acting.{ActsAs, EndsAt, HasStart, acts_in, before_of}
use Rattle.cell_table.specs.Views.{Knows, opening_in}
use Rattle.cell_table.specs.Rule.{Keeps, in_order}
use Rattle.cell_table.proofs.Allowing.{sized}
use Rattle.cell_table.proofs.Binding.{nack_from}
use Rattle.cell_table.proofs.InTurn.{offers_open, taken_before, untaken}
use Rattle.cell_table.proofs.Whole.{few_gathered, made_by_all, made_open, opener, taker}
use Rattle.cell_table.proofs.Turning.{world_kept}
use Rattle.cell_table.proofs.Truths.{own_chose, sees_known, lacks_known}

read_there : (xs : List ℕ) (i x : ℕ) → get_elem? xs i ≡ some x → get_or xs i 0 ≡ x
read_there [] i x e = absurd (mathlib.Core.Option.some-ne-none x (sym e))
read_there (y ∷ ys) zero x e = mathlib.Core.Option.some-injective y x e
read_there (y ∷ ys) (suc i) x e = read_there ys i x e

-- one more word is copied
pub copied_more : (xs ys : List ℕ) (n at x : ℕ) → length xs ≡ n → at < n → get_elem? ys at ≡ some x → ((i : ℕ) → i < at → slice_index xs i ≡ slice_index ys i)
    → (i : ℕ) → i < at + 1 → slice_index (slice_set xs at x) i ≡ slice_index ys i
copied_more xs ys n at x len low is before i below = ⊎_elim
    (λ (e : i ≡ at). ap (λ (k : ℕ). get_or (slice_set xs at x) k 0) e ∙ get_or-set_same xs at x 0 (subst (λ (k : ℕ). at < k) (sym len) low) ∙ sym (read_there ys at x is) ∙ ap (λ (k : ℕ). get_or ys k 0) (sym e))
    (λ (h : i < at). get_or-set_other xs at i x 0 (λ e. omega arith) ∙ before i h)
    (Rattle.std.proofs.Math.Nat.eq-or-lt_of_le (let l : i ≤ at = omega arith in l))

pub copied_all : (xs ys : List ℕ) (n at : ℕ) → length xs ≡ n → length ys ≡ n → n ≤ at → ((i : ℕ) → i < at → slice_index xs i ≡ slice_index ys i) → xs ≡ ys
copied_all xs ys n at len same past each = ext_get_or 0 xs ys (len ∙ sym same) (λ i h. each i (omega arith))

module _ {M : Type 0} (stands : Stands M) where
  pub ended : (key shape : Shape M) (id : ℕ) (v : View M) (ws copy : List ℕ) (slots : List (Option M)) → key ≡ shape → copy ≡ ws → Final (SeenWith (Keeps stands key) id v) ws slots → Final (SeenWith (Keeps stands shape) id v) copy slots
  ended key shape id v ws copy slots keyed copied = subst (λ (z : Shape M × List ℕ). Final (SeenWith (Keeps stands z.0) id v) z.1 slots) (λ i. (keyed i, sym copied i))

  -- THE STATE AT THE END meets the rule, and the pass that closes it has seen what it has seen
  module _ (shape : Shape M) (id : ℕ) (v : View M) (at_table : 0 < v.threads) (ws : List ℕ) (slots : List (Option M)) (final : Final (SeenWith (Keeps stands shape) id v) ws slots) where
    kept : Keeps stands shape final.0
    kept = final.1.0

    table_is : kept.world.table ≡ sized shape ws
    table_is = kept.table ∙ ap (sized shape) final.2

    known : Knows kept.world kept.owner id v
    known = kept.knows id v final.1.1 at_table

    pub final_lawful : IsLawful (ledger_of (sized shape ws))
    final_lawful = subst (λ (t : Table). IsLawful (ledger_of t)) table_is (lawful_ledger kept.world.table (world_kept stands shape final.0 kept).linked)

    pub final_joined : (r : Row) (j : Joined) → Has v.seen.joined (r, j) → joined_in (ledger_of (sized shape ws)) r ≡ Some j
    final_joined r j h = subst (λ (t : Table). joined_in (ledger_of t) r ≡ Some j) table_is (ap (λ (f : Row → _). f r) (joined_in_ledger kept.world.table) ∙ known.joined r j h)

    pub final_results : (t : ℕ) (rs : List Result) → Has v.results (t, rs) → AreResults (ledger_of (sized shape ws)) t rs
    final_results t rs h = subst (λ (z : Table). AreResults (ledger_of z) t rs) table_is (kept.results id v t rs final.1.1 h)

    pub final_bound : (n : NackName) (b : Binding) → Has v.seen.bound (n, b) → binding_in (ledger_of (sized shape ws)) n ≡ Some b
    final_bound n b h = subst (λ (t : Table). binding_in (ledger_of t) n ≡ Some b) table_is (ap (λ (f : NackName → _). f n) (binding_in_ledger kept.world.table) ∙ known.bound n b h)

    -- a course that was seen is that of the ledger
    course_there : (t : ℕ) → course_in (ledger_of (sized shape ws)) t ≡ course_at kept.world.table t
    course_there t = sym (ap (λ (u : Table). course_in (ledger_of u) t) table_is) ∙ ap (λ (f : ℕ → Course). f t) (course_in_ledger kept.world.table)

    pub final_started : (t stamp : ℕ) → Has v.seen.started (t, stamp) → HasStart (course_in (ledger_of (sized shape ws)) t) stamp
    final_started t stamp h = subst (λ (c : Course). HasStart c stamp) (sym (course_there t)) (known.started t stamp h)

    pub final_ended : (t g : ℕ) → Has v.seen.ended (t, g) → EndsAt (course_in (ledger_of (sized shape ws)) t) g
    final_ended t g h = subst (λ (c : Course). EndsAt c g) (sym (course_there t)) (known.ended t g h)

    abbrev before : Opening
    before = opening_in shape

    low : greatest before ≤ 4294967295
    low = let r = kept.opens.room in omega arith

    grown : GrowsTo kept.start.table kept.world.table
    grown = grows-schedule kept.start kept.world (in_order kept.moves) (kept_opening before shape.rows shape.passes kept.start kept.opens kept.few_rows kept.begins) kept.played

    -- a thread that had started, or ended, before all steps
    its_course : (t : ℕ) → GoesOn (course_for (thread_in before t).0 (thread_in before t).1) (course_in (ledger_of (sized shape ws)) t)
    its_course t =
        subst (GoesOn (course_for (thread_in before t).0 (thread_in before t).1)) (sym (course_there t))
        (subst (λ (c : Course). GoesOn c (course_at kept.world.table t)) (first_course_at before shape.rows shape.passes kept.start low kept.begins t) (grown.courses t))

    pub final_before : (t stamp : ℕ) → HadStarted before t stamp → HasStart (course_in (ledger_of (sized shape ws)) t) stamp
    final_before t stamp had = start_stays (course_for (thread_in before t).0 (thread_in before t).1) (course_in (ledger_of (sized shape ws)) t) stamp (its_course t) (begun (thread_in before t).0 (thread_in before t).1 had.0 had.1)
      where
        begun : (l : Life) (s : ℕ) → l ≢ life.Unstarted → s ≡ stamp → HasStart (course_for l s) stamp
        begun life.Unstarted s other is = absurd (other refl)
        begun life.Running s other is = is
        begun life.Ended s other is = is

    pub final_over : (t : ℕ) → HadEnded before t → EndsAt (course_in (ledger_of (sized shape ws)) t) 0
    final_over t had = over (thread_in before t).0 (thread_in before t).1 had (its_course t)
      where
        over : (l : Life) (s : ℕ) → l ≡ life.Ended → GoesOn (course_for l s) (course_in (ledger_of (sized shape ws)) t) → EndsAt (course_in (ledger_of (sized shape ws)) t) 0
        over life.Unstarted s is on = let bad : life.Unstarted ≡ life.Ended = is in cc
        over life.Running s is on = let bad : life.Running ≡ life.Ended = is in cc
        over life.Ended s is on = subst (λ (c : Course). EndsAt c 0) (sym on) refl

    -- and each nack that was settled stays so
    pub final_carried : (n : NackName) → n.thread < shape.threads → n.k < 64 → carried_in (ledger_of (sized shape ws)) n ≡ carried_by (word_for (state_in before n))
    final_carried n thread low_k =
        ap (λ (t : Table). carried_in (ledger_of t) n) (sym table_is)
        ∙ ap (λ (f : NackName → Option ℕ). f n) (carried_in_ledger kept.world.table)
        ∙ grown.carried n
        ∙ first_carried before kept.start.table kept.begins.words low n
        (nack_from kept.start.table n (let size : shape.threads ≡ kept.start.table.threads = ap (λ (t : Table). t.threads) (sym table_is) ∙ grown.threads in omega (arith, thread, size)) low_k)

    pub final_own : (r : Row) (j : Joined) (offers : List Offer) → IsDraft v.seen r offers → joined_in (ledger_of (sized shape ws)) r ≡ Some j
        → (j.own < length offers) × (offer_in (ledger_of (sized shape ws)) r j.own ≡ slice_get offers j.own)
    final_own r j offers draft e =
        let here : joined_at kept.world.table r ≡ Some j = ap (λ (f : Row → _). f r) (sym (joined_in_ledger kept.world.table)) ∙ subst (λ (t : Table). joined_in (ledger_of t) r ≡ Some j) (sym table_is) e in
        let chose = own_chose kept.world kept.owner id v r j offers known (world_kept stands shape final.0 kept) draft here in
        (chose.0, subst (λ (t : Table). offer_in (ledger_of t) r j.own ≡ slice_get offers j.own) table_is (ap (λ (f : Row → ℕ → _). f r j.own) (offer_in_ledger kept.world.table) ∙ chose.1))

    pub final_offer : (r : Row) (n : ℕ) (o : Offer) → SeesOffer v.seen r n o → offer_in (ledger_of (sized shape ws)) r n ≡ Some o
    final_offer r n o sees =
        subst (λ (t : Table). offer_in (ledger_of t) r n ≡ Some o) table_is (ap (λ (f : Row → ℕ → _). f r n) (offer_in_ledger kept.world.table) ∙ sees_known kept.world kept.owner id v r n o known (world_kept stands shape final.0 kept) sees)

    pub final_lack : (r : Row) (n : ℕ) → SeesNoOffer v.seen r n → offer_in (ledger_of (sized shape ws)) r n ≡ None
    final_lack r n sees =
        subst (λ (t : Table). offer_in (ledger_of t) r n ≡ None) table_is (ap (λ (f : Row → ℕ → _). f r n) (offer_in_ledger kept.world.table) ∙ lacks_known kept.world kept.owner id v r n known sees)

    -- in a table of machines the threads do what those do who stand for them
    pub final_acts : 0 < length shape.first.value.items → ActsAs (before_of (opening_in shape)) (acts_in stands shape.first.value.items) (ledger_of (sized shape ws))
    final_acts some_first = subst (λ (t : Table). ActsAs (before_of (opening_in shape)) (acts_in stands shape.first.value.items) (ledger_of t)) table_is (record {
      stamps = opening_in_ledger kept.world.table ∙ ap (λ (t : Table). t.opening) table_is;
      offers = stands-ledger (SomeStands stands shape.first.value.items) kept.world.table (kept.housed some_first).rows;
      starts = kept.started some_first;
      ends = kept.ended some_first;
    })

    -- what lies at home offers what the row offers that is opened and not taken, and no later row of the thread is in a commit
    pub final_machine : 0 < length shape.first.value.items → (t : ℕ) (value : M) → IsHomeOf shape ws slots t value → HandedOut stands shape.first.value.items (ledger_of (sized shape ws)) t value
    final_machine some_first t value h =
        let g = h.1.0 in
        let r : Row = record { thread = t; sync = g } in
        let home = (kept.housed some_first).at_home r (subst (λ (z : Table). is_fresh (cell_at z r) ≡ false) (sym table_is) h.1.1.0) (subst (λ (z : Table). is_taken (cell_at z r) ≡ false) (sym table_is) h.1.1.1) in
        let same : home.value ≡ value = same_Some home.value value (mathlib.Core.Option.some-injective (Some home.value) (Some value) (sym (final.4 t (Some home.value) home.home) ∙ h.0)) in record {
          sync = g;
          offers = subst (λ (z : Table). OffersAs (stands.offers shape.first.value.items value) (ledger_of z) r) table_is (subst (λ (m : M). OffersAs (stands.offers shape.first.value.items m) (ledger_of kept.world.table) r) same home.offers);
          next = λ c x has involved.
              none_later (sized shape ws) (subst (λ (z : Table). Linked z.threads z.rows (cell_at z) (offer_at z) (marks_at z)) table_is (world_kept stands shape final.0 kept).linked) t g h.1.1.1 c x has involved;
        }

    -- the rows of a thread were taken one after another
    pub final_turns : AreInTurn shape ws
    final_turns = taken_before (sized shape ws) (subst (λ (z : Table). Linked z.threads z.rows (cell_at z) (offer_at z) (marks_at z)) table_is (world_kept stands shape final.0 kept).linked)

    -- what stands for the thread of a row that is opened and not taken lies at home
    pub final_home : 0 < length shape.first.value.items → (t g : ℕ) → IsOpenAt shape ws t g → (value : M) × IsHomeOf shape ws slots t value
    final_home some_first t g open_there =
        let r : Row = record { thread = t; sync = g } in
        let home = (kept.housed some_first).at_home r (subst (λ (z : Table). is_fresh (cell_at z r) ≡ false) (sym table_is) open_there.0) (subst (λ (z : Table). is_taken (cell_at z r) ≡ false) (sym table_is) open_there.1) in
        (home.value, (final.4 t (Some home.value) home.home, (g, open_there)))

    -- a row that offers something and is not committed is such a row
    pub final_waiting : 0 < length shape.first.value.items → (r : Row) (n : ℕ) (o : Offer) → offer_in (ledger_of (sized shape ws)) r n ≡ Some o → joined_in (ledger_of (sized shape ws)) r ≡ None → (value : M) × IsHomeOf shape ws slots r.thread value
    final_waiting some_first r n o offers waits = final_home some_first r.thread r.sync (
      offers_open (sized shape ws) r n o (sym (λ i. offer_in_ledger (sized shape ws) i r n) ∙ offers),
      untaken (cell_at (sized shape ws) r) (sym (λ i. joined_in_ledger (sized shape ws) i r) ∙ waits),
    )

    started : Kept kept.start
    started = kept_opening before shape.rows shape.passes kept.start kept.opens kept.few_rows kept.begins

    first_cells : (r : Row) → cell_at kept.start.table r ≡ Fresh
    first_cells r = first_cell before kept.start.table kept.begins.words low r

    -- WHERE ALL PASSES ARE HERE: there are no more of them than the table has
    pub final_few : v.stage ≡ Resting → length v.gathered + 1 ≤ v.passes
    final_few rests = few_gathered kept.world kept.owner final.0.views id v final.1.1 at_table kept.seated kept.gathers kept.knows rests

    its_maker : HasAll v → (step : Step) → (j : ℕ) × (u : View M) × (get_elem? final.0.views j ≡ some u) × Has u.made step → (steps : List Step) × MadeBy v steps × Has steps step
    its_maker all step o = made_by_all kept.world kept.owner final.0.views id v final.1.1 at_table kept.seated kept.gathers kept.knows all.0 all.1 step o

    -- one of them opened each row that is opened
    pub final_opened : HasAll v → (r : Row) → is_fresh (cell_at (sized shape ws) r) ≡ false → (steps : List Step) × MadeBy v steps × Has steps (Open r)
    final_opened all r open_there = its_maker all (Open r) (opener kept.start kept.world kept.moves final.0.views started kept.played kept.interleaved r (ap is_fresh (first_cells r)) (subst (λ (z : Table). is_fresh (cell_at z r) ≡ false) (sym table_is) open_there))

    -- and each that is taken, one of them took
    final_taken : HasAll v → (r : Row) → is_taken (cell_at (sized shape ws) r) ≡ true → (steps : List Step) × MadeBy v steps × Has steps (Take r)
    final_taken all r taken = its_maker all (Take r) (taker kept.start kept.world kept.moves final.0.views started kept.played kept.interleaved r (ap is_taken (first_cells r)) (subst (λ (z : Table). is_taken (cell_at z r) ≡ true) (sym table_is) taken))

    -- a row that one of them opened is opened
    opened_is : (r : Row) (steps : List Step) → MadeBy v steps → Has steps (Open r) → is_fresh (cell_at (sized shape ws) r) ≡ false
    opened_is r steps (inl own) h = subst (λ (z : Table). is_fresh (cell_at z r) ≡ false) table_is (made_open kept.start kept.world kept.moves final.0.views started kept.played kept.interleaved id v r final.1.1 (subst (λ (l : List Step). Has l (Open r)) own h))
    opened_is r steps (inr g) h =
        let o = kept.gathers.left id v g.0 steps final.1.1 g.1 in
        subst (λ (z : Table). is_fresh (cell_at z r) ≡ false) table_is (made_open kept.start kept.world kept.moves final.0.views started kept.played kept.interleaved o.0 o.1 r o.2 (subst (λ (l : List Step). Has l (Open r)) (sym o.6) h))

    -- so what stands for the thread of a row that one opened and none took lies at home
    pub final_kept : 0 < length shape.first.value.items → HasAll v → (r : Row) (steps : List Step) → MadeBy v steps → Has steps (Open r) → ((others : List Step) → MadeBy v others → Has others (Take r) → ⊥) → (value : M) × IsHomeOf shape ws slots r.thread value
    final_kept some_first all r steps made opens untook = final_home some_first r.thread r.sync (
      opened_is r steps made opens,
      ⊎_elim
          (λ (taken : is_taken (cell_at (sized shape ws) r) ≡ true). let t = final_taken all r taken in absurd (untook t.0 t.1 t.2))
          (λ (not_taken : is_taken (cell_at (sized shape ws) r) ≡ false). not_taken)
          (cases_Bool (is_taken (cell_at (sized shape ws) r))),
    )

-- the ledger of these words, where the greatest stamp before the table is told
pub sized_ledger : {M : Type 0} (shape : Shape M) (ws : List ℕ) (stamps : ℕ) (l : Ledger) → stamps ≡ greatest (opening_in shape) → l ≡ ledger_of (wide_table shape.layout (record { threads = shape.threads; rows = shape.rows; words = ws; opening = stamps })) → l ≡ ledger_of (sized shape ws)
sized_ledger shape ws stamps l is told = told ∙ ap (λ (n : ℕ). ledger_of (wide_table shape.layout (record { threads = shape.threads; rows = shape.rows; words = ws; opening = n }))) is

-- A CELL, by the words alone
pub cell_from : {M : Type 0} (shape : Shape M) (ws : List ℕ) (r : Row) → Fits shape.layout shape.rows → length ws ≡ words_below shape.layout shape.threads → r.thread < shape.threads → HasWords shape.layout r
    → cell_at (sized shape ws) r ≡ unwrap_or (cell_of (slice_index ws (short_place shape.layout r 0))) Fresh
unfolding cell_at word_at
cell_from shape ws r fits size a b =
    let few = fits.1 r.thread in
    ap (λ (c : Bool). if c then unwrap_or (cell_of (word_at (sized shape ws) r 0)) Fresh else Fresh) (row_from (sized shape ws) r a (omega arith))
    ∙ ap (λ (n : ℕ). unwrap_or (cell_of n) Fresh) (short_word shape.layout shape.rows fits shape.threads ws size r 0 a b (omega arith))
