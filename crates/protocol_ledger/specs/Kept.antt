-- What all steps keep. The laws of ledgers follow from it.
use Rattle.std.specs.Prelude.{◌≡◌, ◌≢◌, ℕ, ◌+◌, ◌*◌, ◌<◌, ◌≤◌, ◌⊎◌, true, false, Option, Some, None, is_some, length, max, slice_index}
use Rattle.protocol_values.specs.Words.{course_of, is_word_for, nack_of}
use Rattle.protocol_values.specs.declared.NackName.{NackName}
use Rattle.protocol_values.specs.declared.Binding.{Binding}
use Rattle.protocol_values.specs.declared.Course.TheVariants.{Unstarted, Ended}
use Rattle.protocol_values.specs.declared.Offer.{Offer}
use Rattle.protocol_values.specs.declared.Row.{Row}
use Rattle.protocol_values.specs.declared.Joined.{Joined}
use Rattle.protocol_values.specs.declared.Cell.{Cell}
use Rattle.protocol_values.specs.declared.Cell.TheVariants.{Claimed}
use Rattle.protocol_ledger.specs.Tables.{Table, Marks, course_place, marks_at, course_at, start_of, thread_len, all_rows, is_row, is_nack, word_at, nack_at, cell_at, offer_at, is_fresh, is_taken, names, offers_meet, last_stamp, binding_at, bound_row, cause_of}
use Rattle.protocol_values.specs.Values.{joined_of}
use Rattle.protocol_ledger.specs.Worlds.{World, holder_at, last_holder, mirrored}
use Rattle.protocol_ledger.specs.Ledgers.{LivesAt, commits_of}

abbrev pub joined_by : (Row → Cell) → Row → Option Joined
joined_by cell r = joined_of (cell r)

-- row r, joined as j, is one side of a pair whose other side is offer p.1 of row p.0
pub record IsSideOf (cell : Row → Cell) (offer : Row → ℕ → Option Offer) (marks : Marks) (r : Row) (j : Joined) (p : Row × ℕ) : Type 0 where
  pub apart : r.thread ≢ p.0.thread
  pub meets : offers_meet (offer r j.own) (offer p.0 p.1) ≡ true
  pub back : (cell p.0 ≡ Claimed) ⊎ (joined_of (cell p.0) ≡ Some (mirrored r j p.1))
  pub stamp : j.stamp ≡ 1 + max (last_stamp marks (joined_by cell) r) (last_stamp marks (joined_by cell) p.0)

-- row r, joined as j, is committed alone, by an always, by a nack that is enabled, or by the end of a thread
pub record IsAlone (cell : Row → Cell) (offer : Row → ℕ → Option Offer) (marks : Marks) (r : Row) (j : Joined) : Type 0 where
  pub cause : ℕ
  pub is : cause_of (joined_by cell) offer marks (offer r j.own) ≡ Some cause
  pub stamp : j.stamp ≡ 1 + max (last_stamp marks (joined_by cell) r) cause

-- the cells, the offers, the bound nacks and the lives of a table, as all steps keep them
pub record Linked (threads rows : ℕ) (cell : Row → Cell) (offer : Row → ℕ → Option Offer) (marks : Marks) : Type 0 where
  -- only rows of the table are opened
  pub inside : (r : Row) → is_fresh (cell r) ≡ false → (r.thread < threads) × (r.sync < rows)
  -- a row is opened after the row before it in its thread was taken
  pub in_turn : (thread sync : ℕ) → is_fresh (cell (record { thread = thread; sync = sync + 1 })) ≡ false → is_taken (cell (record { thread = thread; sync = sync })) ≡ true
  pub alone : (r : Row) (j : Joined) → joined_of (cell r) ≡ Some j → j.partner ≡ None → IsAlone cell offer marks r j
  pub sides : (r : Row) (j : Joined) (p : Row × ℕ) → joined_of (cell r) ≡ Some j → j.partner ≡ Some p → IsSideOf cell offer marks r j p
  -- a row is the partner of one row at most
  pub once : (q r p : Row) → names (joined_of (cell q)) p ≡ true → names (joined_of (cell r)) p ≡ true → q ≡ r
  -- no stamp exceeds the greatest of what went before by more than the number of commits
  pub bounded : (r : Row) (j : Joined) → joined_of (cell r) ≡ Some j → j.stamp ≤ marks.opening + length (commits_of (all_rows threads rows) (joined_by cell) offer)
  -- an opened row is of a thread that has started, and lies before its end
  pub lived : (r : Row) → is_fresh (cell r) ≡ false → LivesAt (marks.course r.thread) r.sync
  -- all rows before an end were taken
  pub ended : (thread start sync : ℕ) → marks.course thread ≡ Ended start (sync + 1) → is_taken (cell (record { thread = thread; sync = sync })) ≡ true
  pub starts : (thread : ℕ) → start_of (marks.course thread) ≤ marks.opening + length (commits_of (all_rows threads rows) (joined_by cell) offer)
  pub carried : (n : NackName) (stamp : ℕ) → marks.carried n ≡ Some stamp → stamp ≤ marks.opening
  -- a nack that an earlier table settled is bound to no row
  pub settled : (n : NackName) (b : Binding) → marks.bound n ≡ Some b → marks.carried n ≡ None

-- every word is well-formed for its place
pub record IsFormed (t : Table) : Type 0 where
  pub rows : (r : Row) (place : ℕ) → is_row t r ≡ true → place < 34 → is_word_for place (word_at t r place) ≡ true
  pub nacks : (n : NackName) → is_nack t n ≡ true → is_some (nack_of (nack_at t n)) ≡ true
  pub lives : (p : ℕ) → p < t.threads → is_some (course_of (slice_index t.words (course_place t.rows p))) ≡ true

-- a world, as all steps keep it
pub record Kept (w : World) : Type 0 where
  pub sized : length w.table.words ≡ w.table.threads * thread_len w.table.rows
  pub few_threads : w.table.threads ≤ 64
  pub few_rows : w.table.rows ≤ 1024
  -- a stamp has room in its word
  pub room : w.table.opening + w.table.threads * w.table.rows ≤ 4294967295
  pub formed : IsFormed w.table
  pub linked : Linked w.table.threads w.table.rows (cell_at w.table) (offer_at w.table) (marks_at w.table)
  -- a row is held after the row before it in its thread was taken
  pub held : (thread sync seat : ℕ) → holder_at w (record { thread = thread; sync = sync + 1 }) ≡ Some seat → is_taken (cell_at w.table (record { thread = thread; sync = sync })) ≡ true
  -- a nack is bound to a row that is held
  pub bound : (n : NackName) (b : Binding) → binding_at w.table n ≡ Some b → holder_at w (bound_row n b) ≢ None
  -- a row is held of a thread that has started, and so is the place behind its last row
  pub begun : (r : Row) → holder_at w r ≢ None → course_at w.table r.thread ≢ Unstarted
  pub begun_last : (thread : ℕ) → last_holder w thread ≢ None → course_at w.table thread ≢ Unstarted
  -- that place is held after the last row was taken
  pub last_held : (thread sync seat : ℕ) → last_holder w thread ≡ Some seat → w.table.rows ≡ sync + 1 → is_taken (cell_at w.table (record { thread = thread; sync = sync })) ≡ true
  pub seated : length w.holders ≡ w.table.threads * w.table.rows
  pub seated_last : length w.lasts ≡ w.table.threads
  -- nothing was written yet of a row that nobody has held
  pub blank : (r : Row) (place : ℕ) → is_row w.table r ≡ true → place < 34 → holder_at w r ≡ None → word_at w.table r place ≡ 0
