-- Reading from left to right: what stands at the front of the bytes, and the bytes after it.
use Rattle.std.specs.Prelude.{ℕ, List, drop, codes, Option, Some, None, if◌then◌else◌}
use Rattle.digits.specs.Reading.{◌>>=◌, or_else, number_at, count_at, begins, after_word}
use Rattle.protocol_values.specs.declared.Row.{Row}
use Rattle.protocol_values.specs.declared.Seat.{Seat}
use Rattle.protocol_values.specs.declared.Step.{Step}
use Rattle.protocol_values.specs.declared.Step.TheVariants.{Draft, Open, Look, Read, Claim, Yield, Join, Seal, Grant, Take, Bind, Start, Finish}
use Rattle.protocol.specs.declared.schedule.Size.{Size}

-- STEPS

-- a thread, a point, and a sync up to the last
unfoldable pub sync_at : ℕ → ℕ → List ℕ → Option (Row × List ℕ)
sync_at last end bytes = do
  thread ← number_at 63 46 bytes
  sync ← number_at last end thread.1
  Some (record { thread = thread.0; sync = sync.0 }, sync.1)

abbrev pub row_at : ℕ → List ℕ → Option (Row × List ℕ)
row_at end bytes = sync_at 1023 end bytes

-- where a thread stands: one of its rows, or the one behind its last
abbrev pub stand_at : ℕ → List ℕ → Option (Row × List ℕ)
stand_at end bytes = sync_at 1024 end bytes

-- a row, a space, and a number
unfoldable pub placed_at : ℕ → ℕ → List ℕ → Option ((Row × ℕ) × List ℕ)
placed_at limit end bytes = do
  row ← row_at 32 bytes
  place ← number_at limit end row.1
  Some ((row.0, place.0), place.1)

unfoldable pub draft_at : List ℕ → Option (Step × List ℕ)
draft_at bytes = do
  to ← placed_at 33 32 bytes
  value ← number_at 18446744073709551615 10 to.1
  Some (Draft to.0.0 to.0.1 value.0, value.1)

unfoldable pub read_at : List ℕ → Option (Step × List ℕ)
read_at bytes = do
  from ← placed_at 33 10 bytes
  Some (Read from.0.0 from.0.1, from.1)

unfoldable pub join_at : List ℕ → Option (Step × List ℕ)
join_at bytes = do
  mine ← placed_at 7 32 bytes
  other ← placed_at 7 10 mine.1
  Some (Join mine.0.0 mine.0.1 other.0.0 other.0.1, other.1)

unfoldable pub grant_at : List ℕ → Option (Step × List ℕ)
grant_at bytes = do
  at ← placed_at 7 10 bytes
  Some (Grant at.0.0 at.0.1, at.1)

unfoldable pub bind_at : List ℕ → Option (Step × List ℕ)
bind_at bytes = do
  nack ← number_at 63 32 bytes
  to ← placed_at 3 10 nack.1
  Some (Bind nack.0 to.0.0 to.0.1, to.1)

unfoldable pub start_at : List ℕ → Option (Step × List ℕ)
start_at bytes = do
  row ← stand_at 32 bytes
  thread ← number_at 63 10 row.1
  Some (Start row.0 thread.0, thread.1)

unfoldable pub finish_at : List ℕ → Option (Step × List ℕ)
finish_at bytes = do
  row ← stand_at 10 bytes
  Some (Finish row.0, row.1)

-- a step that is done to a row alone
abbrev pub alone_at : (Row → Step) → List ℕ → Option (Step × List ℕ)
alone_at step bytes = do
  row ← row_at 10 bytes
  Some (step row.0, row.1)

-- the word of a step that is done to a row alone, and the row
unfoldable pub row_step_at : List ℕ → Option (Step × List ℕ)
row_step_at bytes =
    if begins bytes (codes "open ")
    then alone_at (λ row. Open row) (drop 5 bytes)
    else (if begins bytes (codes "look ")
    then alone_at (λ row. Look row) (drop 5 bytes)
    else (if begins bytes (codes "claim ")
    then alone_at (λ row. Claim row) (drop 6 bytes)
    else (if begins bytes (codes "yield ")
    then alone_at (λ row. Yield row) (drop 6 bytes)
    else (if begins bytes (codes "seal ")
    then alone_at (λ row. Seal row) (drop 5 bytes)
    else (if begins bytes (codes "take ") then alone_at (λ row. Take row) (drop 5 bytes) else None)))))

-- the step's word, and what it is done to
unfoldable pub step_at : List ℕ → Option (Step × List ℕ)
step_at bytes =
    if begins bytes (codes "draft ")
    then draft_at (drop 6 bytes)
    else (if begins bytes (codes "read ")
    then read_at (drop 5 bytes)
    else (if begins bytes (codes "join ")
    then join_at (drop 5 bytes)
    else (if begins bytes (codes "grant ")
    then grant_at (drop 6 bytes)
    else (if begins bytes (codes "bind ")
    then bind_at (drop 5 bytes)
    else (if begins bytes (codes "start ")
    then start_at (drop 6 bytes)
    else (if begins bytes (codes "finish ") then finish_at (drop 7 bytes) else row_step_at bytes))))))

-- LINES

unfoldable pub step_line_at : List ℕ → Option ((Seat × Step) × List ℕ)
step_line_at bytes = do
  seat ← number_at 15 32 bytes
  step ← step_at seat.1
  Some ((record { 0 = seat.0 }, step.0), step.1)

-- the seats, where they end the line
unfoldable pub seats_alone_at : List ℕ → Option ((ℕ × Option ℕ) × List ℕ)
seats_alone_at bytes = do
  seats ← count_at 16 10 bytes
  Some ((seats.0, None), seats.1)

-- the seats, and how many of the threads are started
unfoldable pub seats_started_at : ℕ → List ℕ → Option ((ℕ × Option ℕ) × List ℕ)
seats_started_at threads bytes = do
  seats ← count_at 16 32 bytes
  started ← count_at threads 10 seats.1
  Some ((seats.0, Some started.0), started.1)

unfoldable pub seats_at : ℕ → List ℕ → Option ((ℕ × Option ℕ) × List ℕ)
seats_at threads bytes = or_else (seats_alone_at bytes) (seats_started_at threads bytes)

unfoldable pub world_line_at : List ℕ → Option (Size × List ℕ)
world_line_at bytes = do
  rest ← after_word (codes "world ") bytes
  threads ← count_at 64 32 rest
  rows ← count_at 1024 32 threads.1
  seats ← seats_at threads.0 rows.1
  Some (record { threads = threads.0; rows = rows.0; seats = seats.0.0; started = seats.0.1 }, seats.1)
