-- What the rule knows of a pass, and when it is true of the table.
use Rattle.std.specs.Prelude.{◌≡◌, ℕ, ◌%◌, ◌<◌, ◌≤◌, ◌∷◌, true, false, Some, List}
use Rattle.protocol_values.specs.declared.NackName.{NackName}
use Rattle.protocol_values.specs.declared.Binding.{Binding}
use Rattle.protocol_values.specs.declared.NackWord.{NackWord}
use Rattle.protocol_values.specs.declared.NackWord.TheVariants.{Bound, Carried, Unbound}
use Rattle.protocol_values.specs.declared.Course.{Course}
use Rattle.protocol_values.specs.declared.Course.TheVariants.{Ended}
use Rattle.protocol_values.specs.declared.Row.{Row}
use Rattle.protocol_values.specs.declared.Step.{Step}
use Rattle.protocol_values.specs.declared.Step.TheVariants.{Bind, Draft, Finish, Start}
use Rattle.protocol_values.specs.declared.Joined.{Joined}
use Rattle.protocol_values.specs.declared.Cell.{Cell}
use Rattle.protocol_values.specs.declared.Cell.TheVariants.{Fresh, Claimed, Taken}
use Rattle.cell_table.specs.declared.view.Seen.{Seen}
use Rattle.cell_table.specs.declared.view.Shape.{Shape}
use Rattle.cell_table.specs.declared.view.View.{View}
use Rattle.cell_table.specs.declared.view.Stage.{Stage}
use Rattle.cell_table.specs.declared.view.Stage.TheVariants.{Resting, Claims, Joins, Aside, Left}
use Rattle.protocol_ledger.specs.Tables.{course_at, is_fresh, is_taken, names, word_at, cell_at, joined_at, binding_at, bound_row, carried_at}
use Rattle.protocol_ledger.specs.Standing.{Result}
use Rattle.protocol_ledger.specs.Openings.{Opening, is_running, opening_of, thread_in}
use Rattle.protocol_ledger.specs.Worlds.{World, first_row, holder_at, last_holder}
use Rattle.cell_table.specs.Sight.{Has, IsCounted, WasSettled, see_opened, see_cell, see_word, see_draft, see_next, see_bound, see_carried, see_course, see_start}
use Rattle.protocol_ledger.specs.Acting.{EndsAt, HasStart}

-- the place behind the last row of a thread, in a table of so many rows
abbrev pub behind_last : ℕ → ℕ → Row
behind_last rows t = record { thread = t; sync = rows }

-- the call has claimed this row
abbrev pub IsClaimer : Stage → Row → Type 0
IsClaimer Resting r = ⊥
IsClaimer (Claims m) r = m ≡ r
IsClaimer (Joins m o j) r = m ≡ r
IsClaimer Aside r = ⊥
IsClaimer Left r = ⊥

-- where a call is between two steps
abbrev pub Staged : World → (Row → ℕ) → ℕ → Stage → Type 0
Staged w owner id Resting = Unit {0}
Staged w owner id (Claims m) = (owner m ≡ id) × (cell_at w.table m ≡ Claimed) × ((q : Row) → names (joined_at w.table q) m ≡ false)
Staged w owner id (Joins m o j) = (owner m ≡ id) × (cell_at w.table m ≡ Claimed) × (joined_at w.table o ≡ Some j) × (names (Some j) m ≡ true)
Staged w owner id Aside = Unit {0}
Staged w owner id Left = Unit {0}

-- from what the table goes on
abbrev pub opening_in : {M : Type 0} → Shape M → Opening
opening_in shape = opening_of shape.opening.value

-- as a pass knows it
abbrev pub opening_by : {M : Type 0} → View M → Opening
opening_by v = record { threads = v.lives; nacks = v.nacks }

-- the thread runs there
abbrev pub RunsIn : Opening → ℕ → Type 0
RunsIn o t = is_running (thread_in o t).0 ≡ true

-- Where a pass stands, and what it has seen: what it knows is by these, and not by what it has made.
pub record Vantage : Type 0 where
  pub threads : ℕ
  pub rows : ℕ
  pub passes : ℕ
  pub opening : Opening
  pub dealt : ℕ
  pub seat : ℕ
  pub stage : Stage
  pub seen : Seen

abbrev pub vantage : {M : Type 0} → View M → Vantage
vantage v = record { threads = v.threads; rows = v.rows; passes = v.passes; opening = opening_by v; dealt = v.dealt; seat = v.seat; stage = v.stage; seen = v.seen }

-- the thread has ended only if it was seen so
abbrev pub SeesEnd : World → Seen → ℕ → Type 0
SeesEnd w s t = (g : ℕ) → EndsAt (course_at w.table t) g → Has s.ended (t, g)

-- What the pass with this number has seen is true of the world. Each row has one owner, so it is held by one pass at most.
pub record KnowsFrom (w : World) (owner : Row → ℕ) (id : ℕ) (from : Vantage) : Type 0 where
  pub threads : from.threads ≡ w.table.threads
  pub rows : from.rows ≡ w.table.rows
  pub passes : from.passes ≡ w.seats
  pub seat : from.seat < w.seats
  -- the first rows of the seats that are not dealt yet are this pass's to deal
  pub undealt : (t : ℕ) → t < w.table.threads → RunsIn from.opening t → from.dealt ≤ t % w.seats
      → (owner (first_row t) ≡ id) × (holder_at w (first_row t) ≡ Some (t % w.seats)) × (¬ Has from.seen.opened (first_row t) → cell_at w.table (first_row t) ≡ Fresh)
      × (¬ IsCounted from.seen (first_row t) → word_at w.table (first_row t) 1 ≡ 0)
      × ((n : NackName) (b : Binding) → binding_at w.table n ≡ Some b → bound_row n b ≡ first_row t → Has from.seen.bound (n, b))
      × (¬ Has from.seen.opened (first_row t) → SeesEnd w from.seen t)
  pub mine : (r : Row) → Has from.seen.held r → (owner r ≡ id) × (holder_at w r ≡ Some from.seat)
  pub calm : (r : Row) → Has from.seen.held r → cell_at w.table r ≡ Claimed → IsClaimer from.stage r
  pub staged : Staged w owner id from.stage
  pub fresh : (r : Row) → Has from.seen.held r → ¬ Has from.seen.opened r → cell_at w.table r ≡ Fresh
  pub drafted : (r : Row) (p x : ℕ) → Has from.seen.drafts (r, p, x) → (owner r ≡ id) × (p < 34) × (1 ≤ p) × (holder_at w r ≡ Some from.seat) × (word_at w.table r p ≡ x)
  pub opened : (r : Row) → Has from.seen.opened r → is_fresh (cell_at w.table r) ≡ false
  pub read : (r : Row) (p x : ℕ) → Has from.seen.words (r, p, x) → (is_fresh (cell_at w.table r) ≡ false) × (p < 34) × (1 ≤ p) × (word_at w.table r p ≡ x)
  pub joined : (r : Row) (j : Joined) → Has from.seen.joined (r, j) → joined_at w.table r ≡ Some j
  pub taken : (r : Row) → Has from.seen.taken r → is_taken (cell_at w.table r) ≡ true
  pub bound : (n : NackName) (b : Binding) → Has from.seen.bound (n, b) → binding_at w.table n ≡ Some b
  pub carried : (n : NackName) (stamp : ℕ) → Has from.seen.carried (n, stamp) → carried_at w.table n ≡ Some stamp
  -- no nack is carried that was not settled before
  pub settled : (n : NackName) (stamp : ℕ) → carried_at w.table n ≡ Some stamp → WasSettled from.opening n stamp
  pub started : (t stamp : ℕ) → Has from.seen.started (t, stamp) → HasStart (course_at w.table t) stamp
  pub ended : (t g : ℕ) → Has from.seen.ended (t, g) → EndsAt (course_at w.table t) g
  -- whoever stands at a place of a thread has seen it end, if it has
  pub lasts : (t : ℕ) → Has from.seen.lasts t → (owner (behind_last w.table.rows t) ≡ id) × (last_holder w t ≡ Some from.seat) × SeesEnd w from.seen t
  pub lively : (r : Row) → Has from.seen.held r → ¬ Has from.seen.opened r → SeesEnd w from.seen r.thread
  -- whoever holds a row has seen all nacks that are bound to it
  pub binds : (n : NackName) (b : Binding) → binding_at w.table n ≡ Some b → Has from.seen.held (bound_row n b) → Has from.seen.bound (n, b)

abbrev pub Knows : {M : Type 0} → World → (Row → ℕ) → ℕ → View M → Type 0
Knows w owner id v = KnowsFrom w owner id (vantage v)

module _ {M : Type 0} where
  -- HOW A VIEW GROWS

  -- the call stands here now, and has seen this
  abbrev pub at_stage : Stage → Seen → View M → View M
  at_stage stage seen v = record v { stage = stage; seen = seen }

  -- and has made these steps
  abbrev pub worked : Stage → Seen → List Step → View M → View M
  worked stage seen made v = record v { stage = stage; seen = seen; made = made }

  -- and has seen these results
  abbrev pub with_results : List (ℕ × List Result) → View M → View M
  with_results results v = record v { results = results }

  -- the pass has made this step of the protocol
  abbrev pub did : Step → View M → View M
  did step v = record v { made = step ∷ v.made }

  -- the call stands here now, and the row is open
  abbrev pub turned : Stage → Row → View M → View M
  turned stage r v = at_stage stage (see_opened r v.seen) v

  abbrev pub saw : Row → Cell → View M → View M
  saw r c v = at_stage v.stage (see_cell r c v.seen) v

  -- the row, committed so, was taken by the pass
  abbrev pub took : Row → Joined → View M → View M
  took r j v = at_stage v.stage (see_next v.rows r (see_cell r (Taken j) v.seen)) v

  -- and has seen the results of its thread up to this row
  abbrev pub took_with : Row → Joined → List Result → View M → View M
  took_with r j results v = with_results ((r.thread, results) ∷ v.results) (took r j v)

  -- the thread was seen so on its course
  abbrev pub saw_course : ℕ → Course → View M → View M
  saw_course p c v = at_stage v.stage (see_course p c v.seen) v

  -- the pass has turned to this place, from which it is to start a thread
  abbrev pub stood_at : Row → View M → View M
  stood_at r v = record v { from = r }

  -- from where it stands it has started the thread
  abbrev pub started_thread : ℕ → ℕ → View M → View M
  started_thread p stamp v = did (Start v.from p) (at_stage v.stage (see_start p stamp v.seen) v)

  -- it has ended the thread at this place
  abbrev pub ended_thread : Row → ℕ → View M → View M
  ended_thread r start v = did (Finish r) (saw_course r.thread (Ended start r.sync) v)

  abbrev pub read_word : Row → ℕ → ℕ → View M → View M
  read_word r p x v = at_stage v.stage (see_word r p x v.seen) v

  abbrev pub drafted_word : Row → ℕ → ℕ → View M → View M
  drafted_word r p x v = at_stage v.stage (see_draft r p x v.seen) v

  -- and the step that it takes
  abbrev pub word_drafted : Row → ℕ → ℕ → View M → View M
  word_drafted r p x v = did (Draft r p x) (drafted_word r p x v)

-- the step that binds the nack so
abbrev pub bind_of : NackName → Binding → Step
bind_of n b = Bind n.k (bound_row n b) b.scope

module _ {M : Type 0} where
  -- the nack is bound so
  abbrev pub bound_nack : NackName → Binding → View M → View M
  bound_nack n b v = at_stage v.stage (see_bound n b v.seen) v

  -- the nack is carried so
  abbrev pub carried_nack : NackName → ℕ → View M → View M
  carried_nack n stamp v = at_stage v.stage (see_carried n stamp v.seen) v

  abbrev pub saw_nack : NackName → NackWord → View M → View M
  saw_nack n Unbound v = v
  saw_nack n (Bound b) v = bound_nack n b v
  saw_nack n (Carried stamp) v = carried_nack n stamp v
