-- The rule of the shared table.
use Rattle.std.specs.Prelude.{◌≡◌, ◌≢◌, ◌⊎◌, ℕ, zero, suc, ◌+◌, ◌%◌, ◌≤◌, ◌==◌, ◌<◌, ◌||◌, ◌&&◌, Bool, true, false, if◌then◌else◌, List, [], ◌∷◌, ◌++◌, length, Option, Some, slice_get, unwrap_or}
use mathlib.Core.Option.{Option as Maybe, some}
use lib.ListN.{get_elem?}
use Rattle.atomic_table.specs.Table.{State}
use Rattle.protocol_values.specs.declared.Row.{Row}
use Rattle.protocol_ledger.specs.declared.layout.Layout.{Layout}
use Rattle.protocol_values.specs.declared.Seat.{Seat}
use Rattle.protocol_values.specs.declared.Course.TheVariants.{Unstarted}
use Rattle.protocol_values.specs.declared.Step.{Step}
use Rattle.protocol_values.specs.declared.Step.TheVariants.{Bind}
use Rattle.cell_table.specs.declared.view.View.{View}
use Rattle.cell_table.specs.declared.view.Shape.{Shape}
use Rattle.cell_table.specs.declared.view.Stage.TheVariants.{Aside, Left, Resting}
use Rattle.protocol_values.specs.declared.Offer.{Offer}
use Rattle.protocol_ledger.specs.Acting.{EachEnded, EachStarted, acts_in}
use Rattle.protocol_ledger.specs.Ledgers.{Ledger, ledger_of}
use Rattle.protocol_ledger.specs.Standing.{AreResults, EachStands, OffersAs, Result, SomeStands, Stands, binding_of}
use Rattle.protocol_ledger.specs.declared.opening.Life.TheVariants.{Ended}
use Rattle.protocol_ledger.specs.Openings.{Begins, HadEnded, HadStarted, IsOpening, Opening, greatest, is_running, start_opening, thread_in}
use Rattle.protocol_ledger.specs.Worlds.{World, first_row, Plays, nack_of_row}
use Rattle.cell_table.specs.declared.view.Seen.{Seen}
use Rattle.cell_table.specs.Sight.{Has, IsDraft}
use Rattle.cell_table.specs.Views.{Knows, RunsIn, opening_by, opening_in}
use Rattle.protocol_ledger.specs.Short.{Fits, wide_table, words_below}
use Rattle.protocol_ledger.specs.Tables.{Table, cell_at, course_at, is_fresh, is_row, is_taken, row_eq, word_at}
use Rattle.protocol_values.specs.Words.{count_of}

-- One change of the table: which pass made it, at which seat, by which step of the protocol.
pub record Move : Type 0 where
  pub pass : ℕ
  pub seat : Seat
  pub step : Step

-- a history, its last move first, as a schedule of the protocol
abbrev pub in_order : List Move → List (Seat × Step)
in_order [] = []
in_order (m ∷ moves) = in_order moves ++ (m.seat, m.step) ∷ []

-- what this pass did of it
abbrev pub steps_by : ℕ → List Move → List (Seat × Step)
steps_by id [] = []
steps_by id (m ∷ moves) = if m.pass == id then (m.seat, m.step) ∷ steps_by id moves else steps_by id moves

-- all these steps, at one seat
abbrev pub at_seat : ℕ → List Step → List (Seat × Step)
at_seat seat [] = []
at_seat seat (step ∷ steps) = (record { 0 = seat }, step) ∷ at_seat seat steps

-- no two of these are of one seat
abbrev pub AreDistinct : List (ℕ × List Step) → Type 0
AreDistinct [] = Unit {0}
AreDistinct (x ∷ xs) = ((steps : List Step) → Has xs (x.0, steps) → ⊥) × AreDistinct xs

module _ {M : Type 0} where
  -- what a pass knows of its table's start: what stood for the threads, from what the table goes on, and which rows have words
  abbrev pub beginning : View M → List (Option M) × Opening × Layout
  beginning v = (v.first, opening_by v, v.layout)

  -- The history is the steps that the passes made, interleaved: each pass made its own at its seat, and nobody else any.
  pub record Interleaves (moves : List Move) (views : List (View M)) : Type 0 where
    pub made : (id : ℕ) (v : View M) → get_elem? views id ≡ some v → steps_by id moves ≡ at_seat v.seat v.made
    pub no_others : (id : ℕ) → length views ≤ id → steps_by id moves ≡ []

  -- WHO SITS WHERE. A pass stands aside where it makes no steps of the protocol: the first one, which deals the rows, and what one
  -- pass tells another.
  pub record Seated (views : List (View M)) : Type 0 where
    -- it has made none, and holds no row
    pub aside : (id : ℕ) (v : View M) → get_elem? views id ≡ some v → v.stage ≡ Aside → (v.made ≡ []) × (v.seen.held ≡ [])
    -- of the others no two have one seat
    pub one_seat : (i j : ℕ) (u v : View M) → get_elem? views i ≡ some u → get_elem? views j ≡ some v → 0 < u.threads → 0 < v.threads → u.stage ≢ Aside → v.stage ≢ Aside → u.seat ≡ v.seat → i ≡ j
    -- the first pass alone deals, and nobody has a seat that is not dealt yet
    pub dealing : (i : ℕ) (u : View M) → get_elem? views i ≡ some u → 0 < u.threads → u.dealt < u.passes → (i ≡ 0) × ((j : ℕ) (v : View M) → get_elem? views j ≡ some v → 0 < v.threads → v.stage ≢ Aside → v.seat < u.dealt)
    -- a pass that has made a step stays of its table
    pub gone : (id : ℕ) (v : View M) → get_elem? views id ≡ some v → v.threads ≡ 0 → v.made ≡ []
    -- whoever has bound a nack to a row holds the row
    pub binders : (id : ℕ) (v : View M) (k : ℕ) (r : Row) (scope : ℕ) → get_elem? views id ≡ some v → Has v.made (Bind k r scope) → Has v.seen.held r
    -- and whoever has begun with a row
    pub begun : (id : ℕ) (v : View M) (r : Row) → get_elem? views id ≡ some v → Has v.seen.begun r → Has v.seen.held r

  -- WHO LEFT THE TABLE, and to whom. A pass that has left makes no more steps, so these are all that it made.
  abbrev pub HasLeft : List (View M) → ℕ → List Step → Type 0
  HasLeft views seat steps = (id : ℕ) × (v : View M) × (get_elem? views id ≡ some v) × (0 < v.threads) × (v.stage ≡ Left) × (v.seat ≡ seat) × (v.made ≡ steps)

  pub record Gathers (views : List (View M)) : Type 0 where
    -- each that a pass has gathered has left
    pub left : (id : ℕ) (v : View M) (seat : ℕ) (steps : List Step) → get_elem? views id ≡ some v → Has v.gathered (seat, steps) → HasLeft views seat steps
    -- and is gathered by one pass, once
    pub once : (i j : ℕ) (u v : View M) (seat : ℕ) (a b : List Step) → get_elem? views i ≡ some u → get_elem? views j ≡ some v → Has u.gathered (seat, a) → Has v.gathered (seat, b) → i ≡ j
    pub distinct : (id : ℕ) (v : View M) → get_elem? views id ≡ some v → AreDistinct v.gathered

  -- the table for which the words stand at this moment
  abbrev pub table_of : {S : Type 0} → Shape M → State S (View M) → Table
  table_of shape s = wide_table shape.layout (record { threads = shape.threads; rows = shape.rows; words = s.words; opening = greatest (opening_in shape) })

-- WHAT STANDS FOR THE THREADS, in a table of machines: it lies in the thread's slot, which is out with a pass from when that takes
-- the thread's row to when it opens the next
module _ {M : Type 0} where
  -- the pass is to begin with the row: it is the first of a thread, which the pass holds or is to deal, and has not begun with
  abbrev pub IsToBegin : View M → Row → Type 0
  IsToBegin v r = (r.sync ≡ 0) × (Has v.seen.held r ⊎ ((r.thread < v.threads) × RunsIn (opening_by v) r.thread × (v.dealt ≤ r.thread % v.passes))) × (¬ Has v.seen.begun r)

  -- then what stood for the thread at first is at home
  pub record Waits (first : List (Option M)) (w : World) (homes : List (Maybe (Option M))) (r : Row) : Type 0 where
    pub fresh : is_fresh (cell_at w.table r) ≡ true
    pub value : M
    pub is_first : slice_get first r.thread ≡ Some (Some value)
    pub home : get_elem? homes r.thread ≡ some (some (Some value))

  -- the value stood for the thread at first, and no row of the thread was opened since
  abbrev pub StoodFirst : List (Option M) → Table → ℕ → M → Type 0
  StoodFirst first t thread value = (is_fresh (cell_at t (first_row thread)) ≡ true) × (slice_get first thread ≡ Some (Some value))

-- some row of the thread is opened, and nobody has taken it
abbrev pub HasOpenRow : Table → ℕ → Type 0
HasOpenRow t thread = (r : Row) × (r.thread ≡ thread) × (is_fresh (cell_at t r) ≡ false) × (is_taken (cell_at t r) ≡ false)

module _ {M : Type 0} (stands : Stands M) where
  -- The value is at home, and the row offers what it offers after the results of the rows before.
  pub record IsHome (first : List (Option M)) (l : Ledger) (homes : List (Maybe (Option M))) (r : Row) : Type 0 where
    pub value : M
    pub home : get_elem? homes r.thread ≡ some (some (Some value))
    pub offers : OffersAs (stands.offers first value) l r

  pub record Housed (first : List (Option M)) (w : World) (homes : List (Maybe (Option M))) (views : List (View M)) : Type 0 where
    -- each opened row offers what somebody offers who stands for its thread after the results of the rows before, and has his nacks
    pub rows : EachStands (SomeStands stands first) w.table
    -- and he is at home until the row is taken
    pub at_home : (r : Row) → is_fresh (cell_at w.table r) ≡ false → is_taken (cell_at w.table r) ≡ false → IsHome first (ledger_of w.table) homes r
    pub waiting : (id : ℕ) (v : View M) (r : Row) → get_elem? views id ≡ some v → 0 < v.threads → IsToBegin v r → Waits first w homes r
    -- and so is what stood at first for a thread that has not started
    pub asleep : (t : ℕ) → t < w.table.threads → course_at w.table t ≡ Unstarted → Waits first w homes (first_row t)
    -- and whatever is at home lies there so: of a thread that has begun it is he of the opened row, and of another one he who stood
    -- for it at first
    pub lies : (t : ℕ) (value : M) → get_elem? homes t ≡ some (some (Some value)) → StoodFirst first w.table t value ⊎ HasOpenRow w.table t

  -- The value stands for the row's thread after the results of the rows before, as the pass has them; its offers are drafted for the
  -- row, and its nacks, and no others, are bound to it.
  pub record IsReady (first : List (Option M)) (results : List (ℕ × List Result)) (s : Seen) (r : Row) (value : M) : Type 0 where
    pub earlier : List Result
    pub count : length earlier ≡ r.sync
    pub seen : (earlier ≡ []) ⊎ Has results (r.thread, earlier)
    pub offers : List Offer
    pub nacks : List ℕ
    pub standing : stands.offers first value r.thread earlier offers nacks
    pub drafted : IsDraft s r offers
    pub bound : (scope k : ℕ) → slice_get nacks scope ≡ Some k → Has s.bound (nack_of_row r k, binding_of r scope)
    pub no_others : (scope k : ℕ) → Has s.bound (nack_of_row r k, binding_of r scope) → slice_get nacks scope ≡ Some k
    -- the pass has begun with the thread
    pub begun : r.sync ≡ 0 → Has s.begun r

  -- The value stands for the thread of the place after the results of the rows before, as the pass has them, and does this there.
  pub record IsActing (results : List (ℕ × List Result)) (r : Row) (act : M → List Result → Type 0) : Type 0 where
    pub value : M
    pub earlier : List Result
    pub count : length earlier ≡ r.sync
    pub seen : (earlier ≡ []) ⊎ Has results (r.thread, earlier)
    pub does : act value earlier

  -- it starts another thread, and it ends
  abbrev pub IsStarting : List (Option M) → List (ℕ × List Result) → Row → ℕ → Type 0
  IsStarting first results r t = IsActing results r (λ value earlier. stands.starts first value r.thread earlier t)

  abbrev pub IsFinishing : List (Option M) → List (ℕ × List Result) → Row → Type 0
  IsFinishing first results r = IsActing results r (λ value earlier. stands.ends first value r.thread earlier)

  -- The history is the passes' steps interleaved, and leads from where the table began to the words as they stand. What each pass
  -- has seen is true of the world that the history leads to. Nothing else ever happens to the table.
  pub record Keeps (shape : Shape M) (s : State (Option M) (View M)) : Type 0 where
    pub opens : IsOpening (opening_in shape) shape.rows
    pub few_rows : shape.rows ≤ 1024
    pub fits : Fits shape.layout shape.rows
    pub sized : length s.words ≡ words_below shape.layout shape.threads
    pub moves : List Move
    pub interleaved : Interleaves moves s.views
    pub start : World
    pub begins : Begins (opening_in shape) shape.rows shape.passes start
    pub world : World
    pub played : Plays start (in_order moves) world
    pub table : world.table ≡ table_of shape s
    -- no row has a greater number of offers than rows have room for
    pub counts : (r : Row) → is_row world.table r ≡ true → unwrap_or (count_of (word_at world.table r 1)) 0 ≤ shape.layout.offers
    pub owner : Row → ℕ
    -- a pass that is of no table any more knows nothing
    pub knows : (id : ℕ) (v : View M) → get_elem? s.views id ≡ some v → 0 < v.threads → Knows world owner id v
    pub seated : Seated s.views
    pub gathers : Gathers s.views
    -- a pass knows what stood for the threads at first, from what the table goes on, and which rows have words
    pub firsts : (id : ℕ) (v : View M) → get_elem? s.views id ≡ some v → 0 < v.threads → beginning v ≡ (shape.first.value.items, opening_in shape, shape.layout)
    -- in a table of machines a thread had started before, or has where what stood for another one had started it, and had ended, or
    -- has where what stood for it had; and what stands for the threads lies where it should
    pub started : 0 < length shape.first.value.items → EachStarted (HadStarted (opening_in shape)) (acts_in stands shape.first.value.items).starts (ledger_of world.table)
    pub ended : 0 < length shape.first.value.items → EachEnded (HadEnded (opening_in shape)) (acts_in stands shape.first.value.items).ends (ledger_of world.table)
    pub housed : 0 < length shape.first.value.items → Housed shape.first.value.items world s.homes s.views
    -- the results that a pass has seen are results of the rows
    pub results : (id : ℕ) (v : View M) (t : ℕ) (rs : List Result) → get_elem? s.views id ≡ some v → Has v.results (t, rs) → AreResults (ledger_of world.table) t rs

module _ {M : Type 0} where
  -- the pass with this number is of the table, and knows this
  abbrev pub IsAt : {S : Type 0} → State S (View M) → ℕ → View M → Type 0
  IsAt s id v = (get_elem? s.views id ≡ some v) × (0 < v.threads)

  -- it has made a step, or holds a row
  abbrev pub HasActed : View M → Type 0
  HasActed v = (v.made ≢ []) ⊎ ((r : Row) × Has v.seen.held r)

-- the number of a Fresh row's offers is 0 until one is drafted
abbrev pub no_offers : List Row → List (Row × ℕ × ℕ)
no_offers [] = []
no_offers (r ∷ rs) = (r, 1, 0) ∷ no_offers rs

-- a pass that holds these rows and has seen nothing
abbrev pub seen_nothing : List Row → Seen
seen_nothing rows = record { held = rows; drafts = no_offers rows; opened = []; words = []; joined = []; taken = []; bound = []; carried = []; begun = []; lasts = []; started = []; ended = [] }

module _ {M : Type 0} where
  -- these stand for the threads of an opening at first: each one that has not ended has one, or there is none at all
  abbrev pub AreMachines : Opening → List (Option M) → Type 0
  AreMachines o first = (first ≡ []) ⊎ ((length first ≡ length o.threads) × ((t : ℕ) → t < length o.threads → (thread_in o t).0 ≢ Ended → (value : M) × (slice_get first t ≡ Some (Some value))))

  -- the first pass: it has dealt the seats below this one, and holds nothing itself
  abbrev pub dealer : Shape M → ℕ → View M
  dealer shape k = record { threads = shape.threads; rows = shape.rows; layout = shape.layout; passes = shape.passes; lives = (opening_in shape).threads; nacks = (opening_in shape).nacks; first = shape.first.value.items; results = []; dealt = k; seat = 0; stage = Aside; from = first_row 0; seen = seen_nothing []; made = []; gathered = [] }

-- the thread runs at first, and falls to seat k
abbrev pub falls_to : Opening → ℕ → ℕ → ℕ → Bool
falls_to o passes k t = is_running (thread_in o t).0 && (t % passes == k)

-- the first rows of the threads below this one that do so
abbrev pub dealt_from : Opening → ℕ → ℕ → ℕ → List Row
dealt_from o zero passes k = []
dealt_from o (suc t) passes k =
    if falls_to o passes k t then first_row t ∷ dealt_from o t passes k else dealt_from o t passes k

-- in a first table, where all threads run
abbrev pub dealt_rows : ℕ → ℕ → ℕ → List Row
dealt_rows threads passes k = dealt_from (start_opening threads 0) threads passes k

module _ {M : Type 0} where
  -- the pass of the next seat: it holds the rows that fall to it
  abbrev pub dealt_pass : View M → View M
  dealt_pass v = record v { dealt = v.passes; seat = v.dealt; stage = Resting; seen = seen_nothing (dealt_from (opening_by v) v.threads v.passes v.dealt); made = [] }

  abbrev pub dealt_one : View M → View M
  dealt_one v = record v { dealt = v.dealt + 1 }

-- WHAT ONE PASS TELLS ANOTHER

-- whether the row is in the list
abbrev pub is_among : List Row → Row → Bool
is_among [] r = false
is_among (q ∷ qs) r = row_eq q r || is_among qs r

-- the words that were drafted for these rows
abbrev pub drafts_of : List Row → List (Row × ℕ × ℕ) → List (Row × ℕ × ℕ)
drafts_of rows [] = []
drafts_of rows (d ∷ ds) = if is_among rows d.0 then d ∷ drafts_of rows ds else drafts_of rows ds

-- what is told: all that was seen, and the words drafted for opened rows, but no row is handed over
abbrev pub told_of : Seen → Seen
told_of s = record s { held = []; drafts = []; words = s.words ++ drafts_of s.opened s.drafts; begun = []; lasts = [] }

-- what a pass has seen once it was told this
abbrev pub heard : Seen → Seen → Seen
heard s told = record s { opened = s.opened ++ told.opened; words = s.words ++ told.words; joined = s.joined ++ told.joined; taken = s.taken ++ told.taken; bound = s.bound ++ told.bound; carried = s.carried ++ told.carried; started = s.started ++ told.started; ended = s.ended ++ told.ended }

module _ {M : Type 0} where
  abbrev pub told_pass : View M → View M
  told_pass v = record v { dealt = v.passes; stage = Aside; seen = told_of v.seen; made = []; gathered = [] }

  -- the pass that has left, and what it tells then: its seat besides, and the steps that it made
  abbrev pub left_pass : View M → View M
  left_pass v = record v { stage = Left }

  abbrev pub told_last : View M → View M
  told_last v = record v { dealt = v.passes; stage = Aside; seen = told_of v.seen; made = []; gathered = (v.seat, v.made) ∷ [] }

  abbrev pub heard_pass : View M → View M → View M
  heard_pass v told = record v { results = v.results ++ told.results; seen = heard v.seen told.seen; gathered = v.gathered ++ told.gathered }

  -- the pass that has told all that it had seen: it is of no table any more
  abbrev pub spent_pass : View M
  spent_pass = record { threads = 0; rows = 0; layout = record { offers = 0; lens = [] }; passes = 0; lives = []; nacks = []; first = []; results = []; dealt = 0; seat = 0; stage = Resting; from = first_row 0; seen = seen_nothing []; made = []; gathered = [] }
