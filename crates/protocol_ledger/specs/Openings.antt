-- What a ledger tells of its end, which a later table goes on from: the last stamp of each thread, and what became of each nack.
use Rattle.std.specs.Prelude.{◌≡◌, ◌⊎◌, ◌≤◌, ◌<◌, ◌+◌, ◌*◌, ◌/◌, ◌%◌, ◌&&◌, ◌==◌, if◌then◌else◌, ℕ, Bool, List, Option, None, Some, true, false, length, map, max, replicate, ◌≢◌, All, slice_get, slice_index, slice_index_or, slice_set}
use Rattle.std.specs.List.{fold, range_with_len}
use Rattle.protocol_values.specs.declared.Binding.{Binding}
use Rattle.protocol_values.specs.declared.Commit.{Commit}
use Rattle.protocol_values.specs.declared.Course.{Course}
use Rattle.protocol_values.specs.declared.Course.TheVariants.{Unstarted as NotStarted, Running as Runs, Ended as HasEnded}
use Rattle.protocol_values.specs.declared.NackName.{NackName}
use Rattle.protocol_values.specs.declared.NackWord.{NackWord}
use Rattle.protocol_values.specs.declared.NackWord.TheVariants as word
use Rattle.protocol_values.specs.declared.Offer.{Offer}
use Rattle.protocol_values.specs.declared.Row.{Row}
use Rattle.protocol_values.specs.Commits.{stamp_of}
use Rattle.protocol_values.specs.Scopes.{has_scope}
use Rattle.protocol_values.specs.Words.{course_word, nack_word}
use Rattle.protocol_ledger.specs.Ledgers.{HasCommit, Involves, IsEnabledHere, Ledger, Takes, binding_in, carried_in, course_in, joined_in, marks_in, offer_in}
use Rattle.protocol_ledger.specs.Tables.{Table, bound_row, course_place, is_nack, is_row, nack_at, start_of, thread_len, word_at}
use Rattle.protocol_ledger.specs.Worlds.{World, holder_at, waits}
use Rattle.protocol_ledger.specs.declared.opening.Life.{Life}
use Rattle.protocol_ledger.specs.declared.opening.Life.TheVariants.{Unstarted, Running, Ended}
use Rattle.protocol_ledger.specs.declared.opening.NackState.{NackState}
use Rattle.protocol_ledger.specs.declared.opening.Opening.{Opening as StatedOpening}
use Rattle.protocol_ledger.specs.declared.reached.Reached.{Reached}
use Rattle.protocol_values.specs.declared.Commit.TheVariants.{Alone, Pair}
use Rattle.protocol_ledger.specs.declared.opening.NackState.TheVariants.{Unbound, Unsettled, Dead, Enabled}

-- THREADS

-- s is the last stamp of the thread: that of its last commit, or that of its start where it has none
pub record IsLastStamp (l : Ledger) (t s : ℕ) : Type 0 where
  pub above : (c : Commit) (g : ℕ) → HasCommit l c → Involves c (record { thread = t; sync = g }) → stamp_of c ≤ s
  pub started : start_of (course_in l t) ≤ s
  pub there : (s ≡ start_of (course_in l t)) ⊎ ((c : Commit) × (g : ℕ) × HasCommit l c × Involves c (record { thread = t; sync = g }) × (stamp_of c ≡ s))

abbrev pub life_of : Course → Life
life_of NotStarted = Unstarted
life_of (Runs start) = Running
life_of (HasEnded start sync) = Ended

-- each thread's life and last stamp
abbrev pub TellsThreads : Ledger → List (Life × ℕ) → Type 0
TellsThreads l threads =
    (length threads ≡ l.threads) × ((t : ℕ) (life : Life) (stamp : ℕ) → slice_get threads t ≡ Some (life, stamp) → (life ≡ life_of (course_in l t)) × IsLastStamp l t stamp)

-- HOW FAR A THREAD GOT: its last stamp, and how many of its rows there are up to that of its last commit

-- from this one on no row of the thread is in a commit
abbrev pub IsPast : Ledger → ℕ → ℕ → Type 0
IsPast l t rows = (c : Commit) (g : ℕ) → HasCommit l c → Involves c (record { thread = t; sync = g }) → g < rows

pub record HasReached (l : Ledger) (t : ℕ) (reached : Reached) : Type 0 where
  pub last : IsLastStamp l t reached.stamp
  pub past : IsPast l t reached.rows

abbrev pub HaveReached : Ledger → List Reached → Type 0
HaveReached l all = (length all ≡ l.threads) × ((t : ℕ) (reached : Reached) → slice_get all t ≡ Some reached → HasReached l t reached)

-- with no commit
abbrev pub AreStarts : Ledger → List Reached → Type 0
AreStarts l all = (length all ≡ l.threads) × ((t : ℕ) (reached : Reached) → slice_get all t ≡ Some reached → reached ≡ record { stamp = start_of (course_in l t); rows = 0 })

-- the row of the thread is noted with this stamp, unless one that is no earlier was
abbrev pub Notes : Row → ℕ → List Reached → List Reached → Type 0
Notes row stamp old new =
    ((new ≡ old) × ((before : Reached) → slice_get old row.thread ≡ Some before → row.sync < before.rows))
    ⊎ ((new ≡ slice_set old row.thread (record { stamp = stamp; rows = row.sync + 1 })) × ((before : Reached) → slice_get old row.thread ≡ Some before → before.rows ≤ row.sync))

-- each row of the commit is
abbrev pub NotesCommit : Commit → List Reached → List Reached → Type 0
NotesCommit (Pair sender receiver channel message stamp) old new = (between : List Reached) × Notes sender.0 stamp old between × Notes receiver.0 stamp between new
NotesCommit (Alone at k stamp) old new = Notes at.0 stamp old new

-- NACKS

-- the row to which the nack is bound is in a commit, which took an offer inside the nack's scope
pub record IsDead (l : Ledger) (n : NackName) : Type 0 where
  pub binding : Binding
  pub is_bound : binding_in l n ≡ Some binding
  pub commit : Commit
  pub inside : HasCommit l commit
  pub chosen : ℕ
  pub takes : Takes commit (bound_row n binding) chosen
  pub offer : Offer
  pub offered : offer_in l (bound_row n binding) chosen ≡ Some offer
  pub enclosed : has_scope offer.scopes binding.scope ≡ true

-- what became of the nack, which an earlier table may have settled
abbrev pub TellsNack : Ledger → NackName → NackState → Type 0
TellsNack l n Unbound = (binding_in l n ≡ None) × (carried_in l n ≡ None)
TellsNack l n Unsettled = (b : Binding) × (binding_in l n ≡ Some b) × ((c : Commit) → HasCommit l c → Involves c (bound_row n b) → ⊥)
TellsNack l n Dead = (carried_in l n ≡ Some 0) ⊎ IsDead l n
TellsNack l n (Enabled stamp) =
    (1 ≤ stamp) × ((carried_in l n ≡ Some stamp) ⊎ ((e : IsEnabledHere (joined_in l) (offer_in l) (marks_in l) n) × (stamp_of e.commit ≡ stamp)))

-- the nack that has this number, of 64 a thread, thread by thread
abbrev pub nack_numbered : ℕ → NackName
nack_numbered i = record { thread = i / 64; k = i % 64 }

-- of the first so many nacks; the others are said to be unbound
abbrev pub TellNacks : Ledger → ℕ → List NackState → Type 0
TellNacks l told states =
    (i : ℕ) (state : NackState) → slice_get states i ≡ Some state → (i < told → TellsNack l (nack_numbered i) state) × (told ≤ i → state ≡ Unbound)

-- 64 nacks a thread, thread by thread
abbrev pub TellsNacks : Ledger → List NackState → Type 0
TellsNacks l states = (length states ≡ l.threads * 64) × ((n : NackName) (state : NackState) → n.k < 64 → slice_get states (n.thread * 64 + n.k) ≡ Some state → TellsNack l n state)

-- both
abbrev pub TellsEnd : Ledger → List (Life × ℕ) → List NackState → Type 0
TellsEnd l threads states = TellsThreads l threads × TellsNacks l states

-- OPENINGS, from which a table goes on
pub record Opening : Type 0 where
  pub threads : List (Life × ℕ)
  pub nacks : List NackState

abbrev pub opening_of : StatedOpening → Opening
opening_of o = record { threads = o.threads.items; nacks = o.nacks.items }

abbrev pub stamp_in : NackState → ℕ
stamp_in Unbound = 0
stamp_in Unsettled = 0
stamp_in Dead = 0
stamp_in (Enabled stamp) = stamp

-- the greatest stamp of it, and 0 where it has none
abbrev pub greatest : Opening → ℕ
greatest o = max (fold (λ most thread. max most thread.1) 0 o.threads) (fold (λ most state. max most (stamp_in state)) 0 o.nacks)

-- a table of so many rows a thread can go on from it
pub record IsOpening (o : Opening) (rows : ℕ) : Type 0 where
  pub some : 1 ≤ length o.threads
  pub few : length o.threads ≤ 64
  pub all_nacks : length o.nacks ≡ length o.threads * 64
  -- a thread that waits to be started has no stamp, and a nack that is enabled has one
  pub unstarted : All (λ thread. thread.0 ≡ Unstarted → thread.1 ≡ 0) o.threads
  pub enabled : All (λ state. state ≢ Enabled 0) o.nacks
  -- the stamps to come have room in their words
  pub room : greatest o + length o.threads * rows ≤ 4294967295

-- of a ledger of 1 to 64 threads: a table of any number of rows for which the stamps to come have room
abbrev pub LeadsOn : Ledger → Opening → Type 0
LeadsOn l o = (rows : ℕ) → 1 ≤ l.threads → l.threads ≤ 64 → greatest o + l.threads * rows ≤ 4294967295 → IsOpening o rows

-- WHERE A TABLE GOES ON FROM AN OPENING

abbrev pub thread_in : Opening → ℕ → Life × ℕ
thread_in o t = slice_index_or o.threads t (Unstarted, 0)

abbrev pub state_in : Opening → NackName → NackState
state_in o n = slice_index_or o.nacks (n.thread * 64 + n.k) Unbound

-- who had started, with which last stamp, and who had ended
abbrev pub HadStarted : Opening → ℕ → ℕ → Type 0
HadStarted o t stamp = ((thread_in o t).0 ≢ Unstarted) × ((thread_in o t).1 ≡ stamp)

abbrev pub HadEnded : Opening → ℕ → Type 0
HadEnded o t = (thread_in o t).0 ≡ Ended

-- where a thread is on its course there: its start stamp is its last one, and one that has ended did so before its row 0
abbrev pub course_for : Life → ℕ → Course
course_for Unstarted stamp = NotStarted
course_for Running stamp = Runs stamp
course_for Ended stamp = HasEnded stamp 0

-- what the word of a nack says there: one that is not settled is bound anew
abbrev pub word_for : NackState → NackWord
word_for Unbound = word.Unbound
word_for Unsettled = word.Unbound
word_for Dead = word.Carried 0
word_for (Enabled stamp) = word.Carried stamp

-- the words of the table: nothing is written of any row
pub record AreFirstWords (o : Opening) (t : Table) : Type 0 where
  pub sized : length t.words ≡ t.threads * thread_len t.rows
  pub blank : (r : Row) (place : ℕ) → is_row t r ≡ true → place < 34 → word_at t r place ≡ 0
  pub nacks : (n : NackName) → is_nack t n ≡ true → nack_at t n ≡ nack_word (word_for (state_in o n))
  pub lives : (p : ℕ) → p < t.threads → slice_index t.words (course_place t.rows p) ≡ course_word (course_for (thread_in o p).0 (thread_in o p).1)

-- the table of so many rows a thread that has these words
abbrev pub table_with : Opening → ℕ → List ℕ → Table
table_with o rows words = record { threads = length o.threads; rows = rows; words = words; opening = greatest o }

abbrev pub is_running : Life → Bool
is_running Unstarted = false
is_running Running = true
is_running Ended = false

-- row 0 of a thread that runs is held by seat t mod seats, and no other row is held
abbrev pub held_first : Opening → ℕ → Row → Option ℕ
held_first o seats r = if (r.sync == 0) && is_running (thread_in o r.thread).0 then Some (r.thread % seats) else None

-- the world in which such a table begins, with nobody behind a last row
pub record Begins (o : Opening) (rows seats : ℕ) (w : World) : Type 0 where
  pub threads : w.table.threads ≡ length o.threads
  pub rows_are : w.table.rows ≡ rows
  pub seats_are : w.seats ≡ seats
  pub opening : w.table.opening ≡ greatest o
  pub words : AreFirstWords o w.table
  pub all_rows : length w.holders ≡ w.table.threads * w.table.rows
  pub held : (r : Row) → is_row w.table r ≡ true → holder_at w r ≡ held_first o seats r
  pub lasts : w.lasts ≡ replicate (length o.threads) None

-- The opening of a first table: threads wait where the mask says so, and all others run with no stamp; no nack is bound.
abbrev pub first_life : ℕ → ℕ → Life × ℕ
first_life later t = (if waits later t then Unstarted else Running, 0)

abbrev pub start_opening : ℕ → ℕ → Opening
start_opening threads later = record { threads = map (first_life later) (range_with_len 0 threads); nacks = replicate (threads * 64) Unbound }
