-- What the rule of the table says of a moment between two atomic steps.
use Rattle.std.specs.Prelude.{◌≡◌, ◌⊎◌, ◌<◌, ℕ, List, [], Option, Some, true, false, length, slice_get}
use mathlib.Core.Option.{some}
use lib.ListN.{get_elem?}
use Rattle.atomic_table.specs.Table.{State}
use Rattle.protocol_values.specs.declared.Binding.{Binding}
use Rattle.protocol_values.specs.declared.Cell.TheVariants.{Fresh}
use Rattle.protocol_values.specs.declared.Course.TheVariants.{Unstarted}
use Rattle.protocol_values.specs.declared.NackName.{NackName}
use Rattle.protocol_values.specs.declared.Row.{Row}
use Rattle.protocol_values.specs.declared.Step.TheVariants.{Finish, Start, Take}
use Rattle.protocol_ledger.specs.Acting.{EachEnded, EachStarted, acts_in}
use Rattle.protocol_ledger.specs.Ledgers.{ledger_of, IsLawful}
use Rattle.protocol_ledger.specs.Standing.{AreResults, EachStands, OffersAs, Result, SomeStands, Stands}
use Rattle.protocol_ledger.specs.Openings.{Begins, HadEnded, HadStarted, course_for, state_in, thread_in, word_for}
use Rattle.protocol_ledger.specs.Tables.{Table, binding_at, bound_row, cell_at, course_at, is_fresh, is_nack, is_taken, joined_at, nack_says, names}
use Rattle.protocol_ledger.specs.Worlds.{Plays, World, first_row}
use Rattle.cell_table.specs.declared.view.Shape.{Shape}
use Rattle.cell_table.specs.declared.view.View.{View}
use Rattle.cell_table.specs.Rule.{HasActed, Interleaves, IsAt, IsHome, IsToBegin, Move, in_order, table_of}
use Rattle.cell_table.specs.Sight.{Has}
use Rattle.cell_table.specs.Views.{Knows, bind_of, opening_in}

module _ {M : Type 0} (stands : Stands M) where
  -- The value stands for the thread: it stood for it at first, and no row of the thread was opened since; or a row of the thread is
  -- opened that nobody has taken, and offers what the value offers after the results of the rows before.
  abbrev pub StandsFor : List (Option M) → Table → ℕ → M → Type 0
  StandsFor first t thread value =
      ((slice_get first thread ≡ Some (Some value)) × ((r : Row) → r.thread ≡ thread → is_fresh (cell_at t r) ≡ true))
      ⊎ ((r : Row) × (r.thread ≡ thread) × (is_fresh (cell_at t r) ≡ false) × (is_taken (cell_at t r) ≡ false) × OffersAs (stands.offers first value) (ledger_of t) r)

  -- the row offers what somebody offers who stands for its thread, and the nack is his, of the scope to which it is bound
  abbrev pub IsNackThere : List (Option M) → Table → NackName → Binding → Type 0
  IsNackThere first t n b = (o : OffersAs (SomeStands stands first) (ledger_of t) (bound_row n b)) × (slice_get o.nacks b.scope ≡ Some n.k)

pub record IsLawfulMoment {M : Type 0} (stands : Stands M) (shape : Shape M) (s : State (Option M) (View M)) : Type 0 where
  -- the ledger of the words is lawful
  pub lawful : IsLawful (ledger_of (table_of shape s))
  -- There is one world with these words, and one owner for each row. The passes' own steps, interleaved, lead to it from where a
  -- table begins that goes on from the opening, and nobody has made any other step; and what each pass has seen is true of it.
  pub played_and_known : (moves : List Move) × (world : World) × (owner : Row → ℕ) × ((start : World) × Begins (opening_in shape) shape.rows shape.passes start × Plays start (in_order moves) world) × (world.table ≡ table_of shape s)
      × Interleaves moves s.views × ((id : ℕ) (v : View M) → IsAt s id v → Knows world owner id v)
  -- the results of threads that a pass has seen are those that the commits of their rows give
  pub results : (id : ℕ) (v : View M) (t : ℕ) (results : List Result) → IsAt s id v → Has v.results (t, results) → AreResults (ledger_of (table_of shape s)) t results
  -- in a table of machines each opened row offers what somebody offers who stands for its thread after the results of the rows
  -- before, with his nacks and no others, and he lies in the thread's slot until the row is taken
  pub machines : 0 < length shape.first.value.items → EachStands (SomeStands stands shape.first.value.items) (table_of shape s)
      × ((r : Row) → is_fresh (cell_at (table_of shape s) r) ≡ false → is_taken (cell_at (table_of shape s) r) ≡ false → IsHome stands shape.first.value.items (ledger_of (table_of shape s)) s.homes r)
  -- such threads had started and ended before the table, or started where another one's value had started them, and ended where their
  -- own had
  pub lives : 0 < length shape.first.value.items → EachStarted (HadStarted (opening_in shape)) (acts_in stands shape.first.value.items).starts (ledger_of (table_of shape s)) × EachEnded (HadEnded (opening_in shape)) (acts_in stands shape.first.value.items).ends (ledger_of (table_of shape s))
  -- and where a pass is to begin with a thread, its first row is Fresh, and what stood for the thread at first is at home
  pub waiting : 0 < length shape.first.value.items → (id : ℕ) (v : View M) (r : Row) → IsAt s id v → IsToBegin v r
      → (is_fresh (cell_at (table_of shape s) r) ≡ true) × (value : M) × (slice_get shape.first.value.items r.thread ≡ Some (Some value)) × (get_elem? s.homes r.thread ≡ some (some (Some value)))
  -- and so is what stood at first for a thread that has not started
  pub asleep : 0 < length shape.first.value.items → (t : ℕ) → t < shape.threads → course_at (table_of shape s) t ≡ Unstarted
      → (is_fresh (cell_at (table_of shape s) (first_row t)) ≡ true) × (value : M) × (slice_get shape.first.value.items t ≡ Some (Some value)) × (get_elem? s.homes t ≡ some (some (Some value)))
  -- of every thread, started or not, ended or not, what is at home stands for it
  pub at_home : 0 < length shape.first.value.items → (t : ℕ) (value : M) → get_elem? s.homes t ≡ some (some (Some value)) → StandsFor stands shape.first.value.items (table_of shape s) t value
  -- and its nacks are bound to its opened rows, as what is offered there has them, but for those that are bound to a Fresh row, which
  -- `binder` says who holds
  pub nacks : 0 < length shape.first.value.items → (n : NackName) (b : Binding) → binding_at (table_of shape s) n ≡ Some b
      → (is_fresh (cell_at (table_of shape s) (bound_row n b)) ≡ true) ⊎ IsNackThere stands shape.first.value.items (table_of shape s) n b
  -- no row is held by two passes
  pub one_holder : (i j : ℕ) (u v : View M) (r : Row) → IsAt s i u → IsAt s j v → Has u.seen.held r → Has v.seen.held r → i ≡ j
  -- nor do two stand behind the last row of one thread
  pub one_behind : (i j : ℕ) (u v : View M) (t : ℕ) → IsAt s i u → IsAt s j v → Has u.seen.lasts t → Has v.seen.lasts t → i ≡ j
  -- and no row was taken by two
  pub one_taker : (i j : ℕ) (u v : View M) (r : Row) → IsAt s i u → IsAt s j v → Has u.made (Take r) → Has v.made (Take r) → i ≡ j
  -- no thread was started by two, and none was ended by two
  pub one_starter : (i j : ℕ) (u v : View M) (p : ℕ) (q r : Row) → IsAt s i u → IsAt s j v → Has u.made (Start q p) → Has v.made (Start r p) → i ≡ j
  pub one_end : (i j : ℕ) (u v : View M) (q r : Row) → IsAt s i u → IsAt s j v → Has u.made (Finish q) → Has v.made (Finish r) → q.thread ≡ r.thread → i ≡ j
  -- two passes that have made a step, or hold a row, have two seats
  pub one_seat : (i j : ℕ) (u v : View M) → IsAt s i u → IsAt s j v → HasActed u → HasActed v → u.seat ≡ v.seat → i ≡ j
  -- a nack that is bound was bound by the pass that holds its row
  pub binder : (n : NackName) (b : Binding) → binding_at (table_of shape s) n ≡ Some b → (id : ℕ) × (v : View M) × IsAt s id v × Has v.made (bind_of n b) × Has v.seen.held (bound_row n b)
  -- a pending row is named by one row
  pub named_once : (q r p : Row) → names (joined_at (table_of shape s) q) p ≡ true → names (joined_at (table_of shape s) r) p ≡ true → q ≡ r
  -- where no pass has made a step, every row is Fresh, the nacks are as the opening has them, none of them bound, and so is each
  -- thread on its course
  pub untouched : ((i : ℕ) (v : View M) → get_elem? s.views i ≡ some v → v.made ≡ []) → ((r : Row) → cell_at (table_of shape s) r ≡ Fresh)
      × ((n : NackName) → is_nack (table_of shape s) n ≡ true → nack_says (table_of shape s) n ≡ word_for (state_in (opening_in shape) n))
      × ((t : ℕ) → t < shape.threads → course_at (table_of shape s) t ≡ course_for (thread_in (opening_in shape) t).0 (thread_in (opening_in shape) t).1)
