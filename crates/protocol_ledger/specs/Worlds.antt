-- Worlds: who holds which row, each step's condition and effect, and whole schedules.
use Rattle.std.specs.Prelude.{◌≡◌, ◌⊎◌, ℕ, zero, suc, ◌+◌, ◌*◌, ◌%◌, ◌<◌, ◌≤◌, ◌≢◌, ⊤, Bool, true, ◌==◌, if◌then◌else◌, Option, Some, None, is_some, unwrap_or, List, [], ◌∷◌, ◌++◌, length, map, max, replicate, slice_index_or, slice_set}
use Rattle.protocol_values.specs.Scopes.{has_scope}
use Rattle.protocol_values.specs.Words.{cell_word, course_word, is_word_for, nack_word}
use Rattle.protocol_values.specs.declared.Row.{Row}
use Rattle.protocol_values.specs.declared.NackName.{NackName}
use Rattle.protocol_values.specs.declared.Binding.{Binding}
use Rattle.protocol_values.specs.declared.NackWord.TheVariants.{Unbound, Bound}
use Rattle.protocol_values.specs.declared.Course.{Course}
use Rattle.protocol_values.specs.declared.Course.TheVariants.{Unstarted, Running, Ended}
use Rattle.protocol_values.specs.declared.Joined.{Joined}
use Rattle.protocol_values.specs.declared.Cell.{Cell}
use Rattle.protocol_values.specs.declared.Cell.TheVariants.{Fresh, Waiting, Claimed, Synched, Taken}
use Rattle.protocol_values.specs.declared.Seat.{Seat}
use Rattle.protocol_values.specs.declared.Step.{Step}
use Rattle.protocol_values.specs.declared.Step.TheVariants.{Draft, Open, Look, Read, Claim, Yield, Join, Seal, Grant, Take, Bind, Start, Finish}
use Rattle.protocol_ledger.specs.Tables.{Table, thread_len, place_of, nack_place, course_place, number_of, all_rows, is_row, cell_at, synched_of, offer_at, offers_meet, nack_says, course_at, start_of, marks_at, cause_at, joined_at, namer_of, last_stamp}
use Rattle.protocol_values.specs.Values.{next_row}

-- The words, for each row, one after another, the seat that holds it, and for each thread the seat that stands behind
-- its last row.
pub record World : Type 0 where
  pub table : Table
  pub seats : ℕ
  pub holders : List (Option ℕ)
  pub lasts : List (Option ℕ)

-- THE START. Threads wait to be started where the mask `later` says so, and all others have started at once

-- bit t of the mask
abbrev pub waits : ℕ → ℕ → Bool
waits later t = has_scope later t

-- the holders at the start: row 0 of thread t is held by seat t mod seats, and no other row is held
abbrev pub first_holder : ℕ → ℕ → Row → Option ℕ
first_holder seats later r = if waits later r.thread then None else (if r.sync == 0 then Some (r.thread % seats) else None)

-- the words of a thread's life once it has started at stamp 0, of the threads below a number
abbrev pub with_lives : ℕ → ℕ → ℕ → List ℕ → List ℕ
with_lives later rows zero words = words
with_lives later rows (suc t) words =
    if waits later t
    then with_lives later rows t words
    else slice_set (with_lives later rows t words) (course_place rows t) (course_word (Running 0))

-- all rows Fresh, no nack bound, nobody behind a last row
unfoldable pub start_world : ℕ → ℕ → ℕ → ℕ → World
start_world threads rows seats later = record {
  table = record { threads = threads; rows = rows; words = with_lives later rows threads (replicate (threads * thread_len rows) 0); opening = 0 };
  seats = seats;
  holders = map (first_holder seats later) (all_rows threads rows);
  lasts = replicate threads None;
}

unfoldable pub holder_at : World → Row → Option ℕ
holder_at w r = if is_row w.table r then slice_index_or w.holders (number_of w.table.rows r) None else None

-- the seat that stands behind the thread's last row
abbrev pub last_holder : World → ℕ → Option ℕ
last_holder w t = slice_index_or w.lasts t None

abbrev pub Holds : World → Seat → Row → Type 0
Holds w seat r = holder_at w r ≡ Some seat.0

-- the seat stands at this place of a thread: it holds the row, which is Fresh, or the thread's last row was taken
abbrev pub StandsAt : World → Seat → Row → Type 0
StandsAt w seat r =
    (Holds w seat r × (cell_at w.table r ≡ Fresh)) ⊎ ((r.thread < w.table.threads) × (r.sync ≡ w.table.rows) × (last_holder w r.thread ≡ Some seat.0))

abbrev pub HasEnded : Course → Type 0
HasEnded Unstarted = ⊥
HasEnded (Running start) = ⊥
HasEnded (Ended start sync) = ⊤

abbrev pub IsAlive : World → ℕ → Type 0
IsAlive w t = HasEnded (course_at w.table t) → ⊥

abbrev pub world_cell : World → Row → Cell
world_cell w r = cell_at w.table r

-- whether some committed row names this one as its partner. A claimed row that is named is pending
abbrev pub namer_at : World → Row → Option Row
namer_at w r = namer_of (all_rows w.table.threads w.table.rows) (joined_at w.table) r

-- nack k of the row's thread
abbrev pub nack_of_row : Row → ℕ → NackName
nack_of_row r k = record { thread = r.thread; k = k }

-- WHEN A STEP MAY BE MADE, by a seat that there is
abbrev pub Condition : World → Seat → Step → Type 0
Condition w seat (Draft row place value) =
    Holds w seat row × (world_cell w row ≡ Fresh) × IsAlive w row.thread × (1 ≤ place) × (place ≤ 33) × (is_word_for place value ≡ true)
Condition w seat (Open row) = Holds w seat row × (world_cell w row ≡ Fresh) × IsAlive w row.thread
Condition w seat (Look row) = is_row w.table row ≡ true
Condition w seat (Read row place) = (world_cell w row ≢ Fresh) × (1 ≤ place) × (place ≤ 33)
Condition w seat (Claim row) = Holds w seat row × (world_cell w row ≡ Waiting)
Condition w seat (Yield row) = Holds w seat row × (world_cell w row ≡ Claimed) × (namer_at w row ≡ None)
Condition w seat (Join mine own other partner) =
    Holds w seat mine
    × (world_cell w mine ≡ Claimed)
    × (namer_at w mine ≡ None)
    × (world_cell w other ≡ Waiting)
    × (mine.thread ≢ other.thread)
    × (offers_meet (offer_at w.table mine own) (offer_at w.table other partner) ≡ true)
Condition w seat (Seal row) = Holds w seat row × (world_cell w row ≡ Claimed) × (is_some (namer_at w row) ≡ true)
Condition w seat (Grant row n) = (world_cell w row ≡ Waiting) × (is_some (cause_at w.table row n) ≡ true)
Condition w seat (Take row) = is_some (synched_of (world_cell w row)) ≡ true
Condition w seat (Bind k row scope) =
    Holds w seat row × (world_cell w row ≡ Fresh) × IsAlive w row.thread × (k < 64) × (scope < 4) × (nack_says w.table (nack_of_row row k) ≡ Unbound)
Condition w seat (Start row thread) =
    StandsAt w seat row × IsAlive w row.thread × (thread < w.table.threads) × (row.thread ≢ thread) × (course_at w.table thread ≡ Unstarted)
Condition w seat (Finish row) = StandsAt w seat row × IsAlive w row.thread

abbrev pub Allowed : World → Seat → Step → Type 0
Allowed w seat step = (seat.0 < w.seats) × Condition w seat step

-- WHAT A STEP DOES

abbrev pub with_word : Table → Row → ℕ → ℕ → Table
with_word t r place value =
    record { threads = t.threads; rows = t.rows; words = slice_set t.words (place_of t.rows r place) value; opening = t.opening }

unfoldable pub with_cell : Table → Row → Cell → Table
with_cell t r cell = with_word t r 0 (cell_word cell)

unfoldable pub with_nack : Table → NackName → Binding → Table
with_nack t n b =
    record { threads = t.threads; rows = t.rows; words = slice_set t.words (nack_place t.rows n) (nack_word (Bound b)); opening = t.opening }

unfoldable pub with_course : Table → ℕ → Course → Table
with_course t p course =
    record { threads = t.threads; rows = t.rows; words = slice_set t.words (course_place t.rows p) (course_word course); opening = t.opening }

abbrev pub with_table : World → Table → World
with_table w t = record { table = t; seats = w.seats; holders = w.holders; lasts = w.lasts }

-- the other row's side of a join: its own offer, the row that joins it with its offer, and the stamp, one more than
-- the greater last stamp of the two rows
unfoldable pub joined_with : Table → Row → ℕ → Row → ℕ → Joined
joined_with t mine own other partner =
    record {
      own = partner;
      partner = Some (mine, own);
      stamp = 1 + max (last_stamp (marks_at t) (joined_at t) mine) (last_stamp (marks_at t) (joined_at t) other);
    }

-- a joined row as its partner sees it: row q, joined as j with offer n of the partner
abbrev pub mirrored : Row → Joined → ℕ → Joined
mirrored q j n = record { own = n; partner = Some (q, j.own); stamp = j.stamp }

abbrev pub other_side : Row → Joined → Option (Row × ℕ) → Option Joined
other_side q j None = None
other_side q j (Some p) = Some (mirrored q j p.1)

abbrev pub side_of : Row → Option Joined → Option Joined
side_of q None = None
side_of q (Some j) = other_side q j j.partner

-- how a pending row is committed: as the row that names it says, from the other side
abbrev pub sealed_by : Table → Option Row → Option Joined
sealed_by t None = None
sealed_by t (Some q) = side_of q (joined_at t q)

abbrev pub with_seal : Table → Row → Option Joined → Table
with_seal t r None = t
with_seal t r (Some j) = with_cell t r (Synched j)

-- how a row is committed alone by its offer n: the stamp is one more than the greater of its last stamp and its cause's
unfoldable pub granted_by : Table → Row → ℕ → Joined
granted_by t r n =
    record { own = n; partner = None; stamp = 1 + max (last_stamp (marks_at t) (joined_at t) r) (unwrap_or (cause_at t r n) 0) }

abbrev pub with_take : Table → Row → Option Joined → Table
with_take t r None = t
with_take t r (Some j) = with_cell t r (Taken j)

-- the holders, once the seat holds the row behind this one, if there is one
unfoldable pub handed : Table → List (Option ℕ) → Seat → Row → List (Option ℕ)
handed t holders seat r =
    if is_row t (next_row r) then slice_set holders (number_of t.rows (next_row r)) (Some seat.0) else holders

-- and where there is none, and the row is the last one, stands behind it
unfoldable pub handed_last : Table → List (Option ℕ) → Seat → Row → List (Option ℕ)
handed_last t lasts seat r = if (next_row r).sync == t.rows then slice_set lasts r.thread (Some seat.0) else lasts

abbrev pub with_holders : World → List (Option ℕ) → World
with_holders w holders = record { table = w.table; seats = w.seats; holders = holders; lasts = w.lasts }

abbrev pub with_lasts : World → List (Option ℕ) → World
with_lasts w lasts = record { table = w.table; seats = w.seats; holders = w.holders; lasts = lasts }

-- the first row of a thread
abbrev pub first_row : ℕ → Row
first_row t = record { thread = t; sync = 0 }

-- the seat holds the first row of the thread that it starts
unfoldable pub begun : Table → List (Option ℕ) → Seat → ℕ → List (Option ℕ)
begun t holders seat p = slice_set holders (number_of t.rows (first_row p)) (Some seat.0)

-- a thread that has started ends at this sync
abbrev pub ended_at : Course → ℕ → Course
ended_at course sync = Ended (start_of course) sync

abbrev pub after_step : World → Seat → Step → World
after_step w seat (Draft row place value) = with_table w (with_word w.table row place value)
after_step w seat (Open row) = with_table w (with_cell w.table row Waiting)
after_step w seat (Look row) = w
after_step w seat (Read row place) = w
after_step w seat (Claim row) = with_table w (with_cell w.table row Claimed)
after_step w seat (Yield row) = with_table w (with_cell w.table row Waiting)
after_step w seat (Join mine own other partner) =
    with_table w (with_cell w.table other (Synched (joined_with w.table mine own other partner)))
after_step w seat (Seal row) = with_table w (with_seal w.table row (sealed_by w.table (namer_at w row)))
after_step w seat (Grant row n) = with_table w (with_cell w.table row (Synched (granted_by w.table row n)))
after_step w seat (Take row) =
    with_lasts
    (with_holders (with_table w (with_take w.table row (synched_of (world_cell w row)))) (handed w.table w.holders seat row))
    (handed_last w.table w.lasts seat row)
after_step w seat (Bind k row scope) =
    with_table w (with_nack w.table (nack_of_row row k) (record { sync = row.sync; scope = scope }))
after_step w seat (Start row thread) =
    with_holders (with_table w (with_course w.table thread (Running (last_stamp (marks_at w.table) (joined_at w.table) row)))) (begun w.table w.holders seat thread)
after_step w seat (Finish row) = with_table w (with_course w.table row.thread (ended_at (course_at w.table row.thread) row.sync))

-- A schedule: each step is allowed in turn, and leads on.
abbrev pub Plays : World → List (Seat × Step) → World → Type 0
Plays w [] v = v ≡ w
Plays w (s ∷ ss) v = Allowed w s.0 s.1 × Plays (after_step w s.0 s.1) ss v

-- The schedule is refused at this step: those before it are played, and it is not allowed then.
pub record IsRefused (w : World) (steps : List (Seat × Step)) (index : ℕ) : Type 0 where
  pub before : List (Seat × Step)
  pub step : Seat × Step
  pub behind : List (Seat × Step)
  pub is : steps ≡ before ++ step ∷ behind
  pub count : length before ≡ index
  pub world : World
  pub played : Plays w before world
  pub refused : ¬ Allowed world step.0 step.1
