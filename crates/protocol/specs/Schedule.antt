-- The text of a schedule: a line for the world, then a line for each step. Each schedule has one text.
use Rattle.std.specs.Prelude.{◌≡◌, ◌≢◌, ℕ, ◌+◌, ◌^◌, ◌<◌, ◌≤◌, List, [], ◌∷◌, ◌++◌, length, codes, ◌⊎◌, Option, Some, None, IfSome}
use Rattle.std.specs.Fmt.{decimal}
use Rattle.std.specs.List.{flat_map, AllByRecursion}
use Rattle.protocol_values.specs.Words.{IsRowInRange}
use Rattle.protocol_values.specs.declared.Row.{Row}
use Rattle.protocol_values.specs.declared.Seat.{Seat}
use Rattle.protocol_values.specs.declared.Step.{Step}
use Rattle.protocol_values.specs.declared.Step.TheVariants.{Draft, Open, Look, Read, Claim, Yield, Join, Seal, Grant, Take, Bind, Start, Finish}
use Rattle.protocol.specs.declared.schedule.Size.{Size}

-- what a schedule says: the size of the world, and the steps in order, each with the seat that makes it
pub record Plan : Type 0 where
  pub size : Size
  pub steps : List (Seat × Step)

abbrev pub row_text : Row → List ℕ
row_text r = decimal r.thread ++ codes "." ++ decimal r.sync

-- the word of the step, and what it is done to
abbrev pub step_text : Step → List ℕ
step_text (Draft row place value) = codes "draft " ++ row_text row ++ codes " " ++ decimal place ++ codes " " ++ decimal value
step_text (Open row) = codes "open " ++ row_text row
step_text (Look row) = codes "look " ++ row_text row
step_text (Read row place) = codes "read " ++ row_text row ++ codes " " ++ decimal place
step_text (Claim row) = codes "claim " ++ row_text row
step_text (Yield row) = codes "yield " ++ row_text row
step_text (Join mine own other partner) =
    codes "join " ++ row_text mine ++ codes " " ++ decimal own ++ codes " " ++ row_text other ++ codes " " ++ decimal partner
step_text (Seal row) = codes "seal " ++ row_text row
step_text (Grant row offer) = codes "grant " ++ row_text row ++ codes " " ++ decimal offer
step_text (Take row) = codes "take " ++ row_text row
step_text (Bind k row scope) = codes "bind " ++ decimal k ++ codes " " ++ row_text row ++ codes " " ++ decimal scope
step_text (Start row thread) = codes "start " ++ row_text row ++ codes " " ++ decimal thread
step_text (Finish row) = codes "finish " ++ row_text row

-- the seat, a space, the step, and the line's end
abbrev pub step_line : Seat × Step → List ℕ
step_line s = decimal s.0.0 ++ codes " " ++ step_text s.1 ++ 10 ∷ []

-- behind the seats: nothing, or how many threads are started
abbrev pub started_text : Option ℕ → List ℕ
started_text None = []
started_text (Some n) = codes " " ++ decimal n

abbrev pub world_line : Size → List ℕ
world_line w =
    codes "world " ++ decimal w.threads ++ codes " " ++ decimal w.rows ++ codes " " ++ decimal w.seats ++ started_text w.started ++ 10 ∷ []

abbrev pub text_of : Plan → List ℕ
text_of p = world_line p.size ++ flat_map step_line p.steps

-- THE RANGES

-- a place where a thread stands: one of its rows, or the one behind its last
pub record IsStandInRange (r : Row) : Type 0 where
  pub thread : r.thread < 64
  pub sync : r.sync ≤ 1024

abbrev pub IsStep : Step → Type 0
IsStep (Draft row place value) = IsRowInRange row × (place ≤ 33) × (value < 2 ^ 64)
IsStep (Open row) = IsRowInRange row
IsStep (Look row) = IsRowInRange row
IsStep (Read row place) = IsRowInRange row × (place ≤ 33)
IsStep (Claim row) = IsRowInRange row
IsStep (Yield row) = IsRowInRange row
IsStep (Join mine own other partner) = IsRowInRange mine × (own ≤ 7) × IsRowInRange other × (partner ≤ 7)
IsStep (Seal row) = IsRowInRange row
IsStep (Grant row offer) = IsRowInRange row × (offer ≤ 7)
IsStep (Take row) = IsRowInRange row
IsStep (Bind k row scope) = (k ≤ 63) × IsRowInRange row × (scope ≤ 3)
IsStep (Start row thread) = IsStandInRange row × (thread ≤ 63)
IsStep (Finish row) = IsStandInRange row

pub record IsSeatStep (s : Seat × Step) : Type 0 where
  pub seat : s.0.0 ≤ 15
  pub step : IsStep s.1

pub record IsSize (w : Size) : Type 0 where
  pub threads_low : 1 ≤ w.threads
  pub threads_high : w.threads ≤ 64
  pub rows_low : 1 ≤ w.rows
  pub rows_high : w.rows ≤ 1024
  pub seats_low : 1 ≤ w.seats
  pub seats_high : w.seats ≤ 16
  pub started : IfSome w.started (λ n. (1 ≤ n) × (n ≤ w.threads))

pub record IsPlan (p : Plan) : Type 0 where
  pub size : IsSize p.size
  pub steps : AllByRecursion IsSeatStep p.steps

-- WHAT BYTES SAY

-- the bytes are the text of the schedule, all of them
pub record Spells (bytes : List ℕ) (p : Plan) : Type 0 where
  pub fits : IsPlan p
  pub text : bytes ≡ text_of p

-- no good line begins the bytes: none for a world, none for a step
abbrev pub NoWorldLineBegins : List ℕ → Type 0
NoWorldLineBegins bytes = (w : Size) (after : List ℕ) → IsSize w → bytes ≢ world_line w ++ after

abbrev pub NoStepLineBegins : List ℕ → Type 0
NoStepLineBegins bytes = (s : Seat × Step) (after : List ℕ) → IsSeatStep s → bytes ≢ step_line s ++ after

-- the bytes are the text of a schedule, and then a rest with which no line for a step begins
pub record BreaksOffAfter (bytes : List ℕ) (p : Plan) (rest : List ℕ) : Type 0 where
  pub fits : IsPlan p
  pub text : bytes ≡ text_of p ++ rest
  pub more : rest ≢ []
  pub bad : NoStepLineBegins rest

-- Line k, from 1, is the first that is not of the form: the first line is that of the world, and the lines behind it
-- are those of the steps. Lines before it are good, and the bytes do not end before it, unless it is the first.
abbrev pub IsFirstBadLine : List ℕ → ℕ → Type 0
IsFirstBadLine bytes k =
    ((k ≡ 1) × NoWorldLineBegins bytes)
    ⊎ ((p : Plan) × (rest : List ℕ) × (k ≡ length p.steps + 2) × BreaksOffAfter bytes p rest)

-- LAWS

-- no bytes spell two schedules
abbrev pub SpellsOnlyOne : Type 0
SpellsOnlyOne = (bytes : List ℕ) (p q : Plan) → Spells bytes p → Spells bytes q → p ≡ q

-- bytes that spell a schedule have no bad line
abbrev pub SpellsOrIsBad : Type 0
SpellsOrIsBad = (bytes : List ℕ) (p : Plan) (k : ℕ) → Spells bytes p → IsFirstBadLine bytes k → ⊥

-- at most one line is the first bad one
abbrev pub HasOneFirstBadLine : Type 0
HasOneFirstBadLine = (bytes : List ℕ) (j k : ℕ) → IsFirstBadLine bytes j → IsFirstBadLine bytes k → j ≡ k
