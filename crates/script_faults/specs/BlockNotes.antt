-- The faults of events, statements, blocks and scripts, as notes for their tokens.
use Rattle.std.specs.Prelude.{ℕ, ◌+◌, ◌-◌, List, [], ◌∷◌, ◌++◌, length, Bool, true, false, ◌||◌, Some, None, is_some, nat_lt, nat_le, if◌then◌else◌}
use Rattle.script_grammar.specs.Meaning.{place}
use Rattle.script_reader.specs.Steps.{Here, bound, start}
use Rattle.script_reader.specs.declared.fault.Problem.TheVariants.{Syntax, Twice, TooMany, LoopWithoutSync}
use Rattle.script_grammar.specs.Written.{Event, Events, NoEvents, Another, Stmt, Block, Done, Then, Process, Script}
use Rattle.script_grammar.specs.Written as written
use Rattle.script_faults.specs.Notes.{Note, also, plain, read_note, process_note, spawn_note, spawned_after, bind_note, expr_notes, test_notes, list_notes, names_after, names_notes}

-- the word of a base event
unfoldable pub base_note : ℕ → Here → Note
base_note nesting h = if nat_le 8 h.counts.bases then Some (TooMany, 0) else plain nesting

-- the word `nack`
unfoldable pub nack_note : ℕ → Here → Note
nack_note nesting h = if nat_le 4 h.counts.nacks then Some (TooMany, 0) else plain nesting

-- the word of a loop, which may stand there or not
unfoldable pub loop_note : Bool → ℕ → Note
loop_note loops nesting = if loops then plain nesting else Some (Syntax, 0)

-- a name that is declared, as one of at most so many
unfoldable pub declare_note : ℕ → List (List ℕ) → List ℕ → Note
declare_note limit names text =
    if is_some (place text names) then Some (Twice, 0)
    else (if nat_le limit (length names) || nat_lt 32 (length text) then Some (TooMany, 0) else None)

-- names behind `as`, if there are any, and the word `to`
unfoldable pub as_notes : ℕ → Here → List (List ℕ) → List Note
as_notes nesting h [] = plain nesting ∷ []
as_notes nesting h (text ∷ texts) = plain nesting ∷ (names_notes nesting h text texts ++ plain nesting ∷ [])

-- names in front of a sync, if there are any
unfoldable pub received_notes : ℕ → Here → List (List ℕ) → List Note
received_notes nesting h [] = []
received_notes nesting h (text ∷ texts) = names_notes nesting h text texts ++ plain nesting ∷ []

-- EVENTS, STATEMENTS AND BLOCKS

abbrev pub one_base : Here → Here
one_base h = record h { counts = record { bases = h.counts.bases + 1; nacks = h.counts.nacks } }

abbrev pub one_nack : Here → Here
one_nack h = record h { counts = record { bases = h.counts.bases; nacks = h.counts.nacks + 1 } }

-- a sync has its own counts
abbrev pub uncounted : Here → Here
uncounted h = record h { counts = record { bases = 0; nacks = 0 } }

-- the names and counts behind what is written
unfoldable mutual
  pub event_after : Here → Event → Here
  event_after h (written.Send channel list) = one_base h
  event_after h (written.Recv channel) = one_base h
  event_after h (written.Always list) = one_base h
  event_after h written.Never = one_base h
  event_after h (written.Cancelled nack) = one_base h
  event_after h (written.Joined process) = one_base h
  event_after h (written.Choose members) = events_after h members
  event_after h (written.Wrap event names list) = names_after (event_after h event) names
  event_after h (written.Guard body event) = event_after (block_after h body) event
  event_after h (written.Nack name body event) = event_after (block_after (bound (one_nack h) name).1 body) event

  pub events_after : Here → Events → Here
  events_after h NoEvents = h
  events_after h (Another event others) = events_after (event_after h event) others

  pub stmt_after : Here → Stmt → Here
  stmt_after h (written.Let name value) = (bound h name).1
  stmt_after h (written.Print value) = h
  stmt_after h (written.Sync names event) = record (event_after (uncounted (names_after h names)) event) { counts = (names_after h names).counts }
  stmt_after h (written.If test first second) = block_after (block_after h first) second
  stmt_after h (written.Loop times body) = block_after h body
  stmt_after h (written.Forever body) = block_after h body
  stmt_after h written.End = h
  stmt_after h (written.Spawn process) = spawned_after h process

  pub block_after : Here → Block → Here
  block_after h Done = h
  block_after h (Then stmt others) = block_after (stmt_after h stmt) others

-- whether a block begins with a sync
abbrev pub is_sync : Stmt → Bool
is_sync (written.Let name value) = false
is_sync (written.Print value) = false
is_sync (written.Sync names event) = true
is_sync (written.If test first second) = false
is_sync (written.Loop times body) = false
is_sync (written.Forever body) = false
is_sync written.End = false
is_sync (written.Spawn process) = false

abbrev pub begins_with_sync : Block → Bool
begins_with_sync Done = false
begins_with_sync (Then stmt others) = is_sync stmt

-- A loop that does not begin with a sync is noted behind its brace, so many tokens behind its word.
abbrev pub if_no_sync : Bool → ℕ → List Note → List Note
if_no_sync true back notes = notes
if_no_sync false back notes = also (LoopWithoutSync, back) notes

-- Loops may stand there, or not: they may not in the blocks of guards and nacks.
unfoldable mutual
  pub event_notes : ℕ → Here → Event → List Note
  event_notes nesting h (written.Send channel list) = base_note nesting h ∷ read_note nesting (one_base h) channel ∷ list_notes nesting (one_base h) list
  event_notes nesting h (written.Recv channel) = base_note nesting h ∷ read_note nesting (one_base h) channel ∷ []
  event_notes nesting h (written.Always list) = base_note nesting h ∷ list_notes nesting (one_base h) list
  event_notes nesting h written.Never = base_note nesting h ∷ []
  event_notes nesting h (written.Cancelled nack) = base_note nesting h ∷ read_note nesting (one_base h) nack ∷ []
  event_notes nesting h (written.Joined process) = base_note nesting h ∷ process_note nesting (one_base h) process ∷ []
  event_notes nesting h (written.Choose members) = plain nesting ∷ plain nesting ∷ (events_notes (nesting - 1) h members ++ plain (nesting - 1) ∷ [])
  event_notes nesting h (written.Wrap event names list) =
      plain nesting ∷ (event_notes (nesting - 1) h event ++ (as_notes (nesting - 1) (event_after h event) names ++ list_notes (nesting - 1) (names_after (event_after h event) names) list))
  event_notes nesting h (written.Guard body event) = plain nesting ∷ ((plain (nesting - 1) ∷ body_notes false (nesting - 1 - 1) h body) ++ event_notes (nesting - 1) (block_after h body) event)
  event_notes nesting h (written.Nack name body event) =
      nack_note nesting h ∷ bind_note (nesting - 1) [] (one_nack h) name ∷
      ((plain (nesting - 1) ∷ body_notes false (nesting - 1 - 1) (bound (one_nack h) name).1 body) ++ event_notes (nesting - 1) (block_after (bound (one_nack h) name).1 body) event)

  pub events_notes : ℕ → Here → Events → List Note
  events_notes nesting h NoEvents = []
  events_notes nesting h (Another event others) = event_notes nesting h event ++ more_events_notes nesting (event_after h event) others

  -- events behind another
  pub more_events_notes : ℕ → Here → Events → List Note
  more_events_notes nesting h NoEvents = []
  more_events_notes nesting h (Another event others) = (plain nesting ∷ event_notes nesting h event) ++ more_events_notes nesting (event_after h event) others

  pub stmt_notes : Bool → ℕ → Here → Stmt → List Note
  stmt_notes loops nesting h (written.Let name value) = plain nesting ∷ bind_note nesting [] h name ∷ plain nesting ∷ (expr_notes nesting (bound h name).1 value ++ plain nesting ∷ [])
  stmt_notes loops nesting h (written.Print value) = plain nesting ∷ (expr_notes nesting h value ++ plain nesting ∷ [])
  stmt_notes loops nesting h (written.Sync names event) = received_notes nesting h names ++ (plain nesting ∷ (event_notes nesting (uncounted (names_after h names)) event ++ plain nesting ∷ []))
  stmt_notes loops nesting h (written.If test first second) =
      plain nesting ∷ (test_notes nesting h test ++ ((plain nesting ∷ body_notes loops (nesting - 1) h first) ++ (plain nesting ∷ (plain nesting ∷ body_notes loops (nesting - 1) (block_after h first) second))))
  stmt_notes loops nesting h (written.Loop times body) = loop_note loops nesting ∷ plain nesting ∷ plain nesting ∷ if_no_sync (begins_with_sync body) 3 (body_notes true (nesting - 1) h body)
  stmt_notes loops nesting h (written.Forever body) = loop_note loops nesting ∷ plain nesting ∷ if_no_sync (begins_with_sync body) 2 (body_notes true (nesting - 1) h body)
  stmt_notes loops nesting h written.End = plain nesting ∷ plain nesting ∷ []
  stmt_notes loops nesting h (written.Spawn process) = plain nesting ∷ spawn_note nesting h process ∷ plain nesting ∷ []

  -- statements, and the brace that ends them
  pub body_notes : Bool → ℕ → Here → Block → List Note
  body_notes loops nesting h Done = plain nesting ∷ []
  body_notes loops nesting h (Then stmt others) = stmt_notes loops nesting h stmt ++ body_notes loops nesting (stmt_after h stmt) others

abbrev pub block_notes : Bool → ℕ → Here → Block → List Note
block_notes loops nesting h body = plain nesting ∷ body_notes loops (nesting - 1) h body

-- SCRIPTS

-- channels behind others
unfoldable pub channels_notes : List (List ℕ) → List (List ℕ) → List Note
channels_notes names [] = []
channels_notes names (text ∷ texts) = (None ∷ declare_note 256 names text ∷ None ∷ []) ++ channels_notes (names ++ text ∷ []) texts

-- processes behind others with such names, some of which are spawned; each begins with the channels, and
-- with the processes before it
unfoldable pub processes_notes : List (List ℕ) → List (List ℕ) → List ℕ → List Process → List Note
processes_notes channels names spawned [] = []
processes_notes channels names spawned (p ∷ ps) =
    (None ∷ declare_note 64 names p.name ∷ block_notes true 49 (start channels names spawned) p.body)
    ++ processes_notes channels (names ++ p.name ∷ []) (block_after (start channels names spawned) p.body).spawned ps

unfoldable pub script_notes : Script → List Note
script_notes s = channels_notes [] s.channels ++ processes_notes s.channels [] [] s.processes
