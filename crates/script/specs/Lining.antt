-- Lines that are given to the statements of trees, one after another in the order in which they are written.
use Rattle.std.specs.Prelude.{◌≡◌, ℕ, ◌+◌, List, [], ◌∷◌, map, get_or}
use Rattle.script_tree.specs.Trees.{Event, Sends, Receives, IsReady, IsNever, IsCancelled, IsJoined, Chooses, Wraps, Guards, Nacks, Events, NoMembers, Members, Stmt, Lets, Prints, Syncs, Branches, Loops, LoopsForever, Ends, Spawns, Block, Stops, Runs, LoopBody}
use Rattle.script_tree.specs.Lined as lined
use Rattle.script_tree.specs.Trees.{names_of}
use Rattle.script_tree.specs.declared.tree.LoopBody.{LoopBody as SeenTurn}
use Rattle.std.specs.Option.{option_map}
use Rattle.script_tree.specs.Processes.{Proc, proc_of, tree_of}
use Rattle.script_tree.specs.declared.process.Proc.{Proc as SeenProc}
use Rattle.script.specs.declared.reading.Draft.{Draft}

-- HOW MANY LINES THEY TAKE

abbrev mutual
  pub count_event : Event → ℕ
  count_event (Sends channel list) = 0
  count_event (Receives channel) = 0
  count_event (IsReady list) = 0
  count_event IsNever = 0
  count_event (IsCancelled nack) = 0
  count_event (IsJoined process) = 0
  count_event (Chooses members) = count_members members
  count_event (Wraps event names list) = count_event event
  count_event (Guards body event) = count_block body + count_event event
  count_event (Nacks name body event) = count_block body + count_event event

  pub count_members : Events → ℕ
  count_members NoMembers = 0
  count_members (Members event others) = count_event event + count_members others

  -- besides its own
  pub count_stmt : Stmt → ℕ
  count_stmt (Lets name value) = 0
  count_stmt (Prints value) = 0
  count_stmt (Syncs names event) = count_event event
  count_stmt (Branches test first second) = count_block first + count_block second
  count_stmt (Loops times names event rest) = 1 + count_event event + count_block rest
  count_stmt (LoopsForever names event rest) = 1 + count_event event + count_block rest
  count_stmt Ends = 0
  count_stmt (Spawns process) = 0

  pub count_block : Block → ℕ
  count_block Stops = 0
  count_block (Runs stmt rest) = 1 + count_stmt stmt + count_block rest

-- the turn of a loop
abbrev pub count_turn : LoopBody → ℕ
count_turn t = 1 + count_event t.event + count_block t.rest

abbrev pub count_all : List Proc → ℕ
count_all [] = 0
count_all (p ∷ ps) = count_block p.body + count_all ps

-- WITH THEIR LINES
-- The first statement gets line n of the list.

abbrev mutual
  pub lined_event : List ℕ → ℕ → Event → lined.Event
  lined_event lines n (Sends channel list) = lined.Sends channel list
  lined_event lines n (Receives channel) = lined.Receives channel
  lined_event lines n (IsReady list) = lined.IsReady list
  lined_event lines n IsNever = lined.IsNever
  lined_event lines n (IsCancelled nack) = lined.IsCancelled nack
  lined_event lines n (IsJoined process) = lined.IsJoined process
  lined_event lines n (Chooses members) = lined.Chooses (lined_members lines n members)
  lined_event lines n (Wraps event names list) = lined.Wraps (lined_event lines n event) names list
  lined_event lines n (Guards body event) = lined.Guards (lined_block lines n body) (lined_event lines (n + count_block body) event)
  lined_event lines n (Nacks name body event) = lined.Nacks name (lined_block lines n body) (lined_event lines (n + count_block body) event)

  pub lined_members : List ℕ → ℕ → Events → lined.Events
  lined_members lines n NoMembers = lined.NoMembers
  lined_members lines n (Members event others) =
      lined.Members (lined_event lines n event) (lined_members lines (n + count_event event) others)

  -- what the statement has besides its own line
  pub lined_stmt : List ℕ → ℕ → Stmt → lined.Stmt
  lined_stmt lines n (Lets name value) = lined.Lets name value
  lined_stmt lines n (Prints value) = lined.Prints value
  lined_stmt lines n (Syncs names event) = lined.Syncs names (lined_event lines n event)
  lined_stmt lines n (Branches test first second) =
      lined.Branches test (lined_block lines n first) (lined_block lines (n + count_block first) second)
  lined_stmt lines n (Loops times names event rest) =
      lined.Loops times (get_or lines n 0) names (lined_event lines (n + 1) event) (lined_block lines (n + 1 + count_event event) rest)
  lined_stmt lines n (LoopsForever names event rest) =
      lined.LoopsForever (get_or lines n 0) names (lined_event lines (n + 1) event) (lined_block lines (n + 1 + count_event event) rest)
  lined_stmt lines n Ends = lined.Ends
  lined_stmt lines n (Spawns process) = lined.Spawns process

  pub lined_block : List ℕ → ℕ → Block → lined.Block
  lined_block lines n Stops = lined.Stops
  lined_block lines n (Runs stmt rest) =
      lined.Runs (lined_stmt lines (n + 1) stmt) (get_or lines n 0) (lined_block lines (n + 1 + count_stmt stmt) rest)

abbrev pub lined_turn : List ℕ → ℕ → LoopBody → lined.LoopBody
lined_turn lines n t =
    record { line = get_or lines n 0; names = t.names; event = lined_event lines (n + 1) t.event; rest = lined_block lines (n + 1 + count_event t.event) t.rest }

-- the bodies of processes, one behind the other
abbrev pub lined_all : List ℕ → ℕ → List Proc → List lined.Block
lined_all lines n [] = []
lined_all lines n (p ∷ ps) = lined_block lines n p.body ∷ lined_all lines (n + count_block p.body) ps

-- a turn as it lies in memory, with its lines
abbrev pub turn_of : SeenTurn → lined.LoopBody
turn_of t = record { line = t.line; names = option_map names_of t.names; event = lined.event_of t.event.value; rest = lined.block_of t.rest.value }

-- WHAT WAS READ

abbrev pub lined_of : SeenProc → lined.Block
lined_of p = lined.block_of (tree_of p)

abbrev pub trees_in : List SeenProc → List lined.Block
trees_in ps = map lined_of ps

-- the processes so far have the first lines, and took so many
pub record IsLined (lines : List ℕ) (d : Draft) : Type 0 where
  pub trees : trees_in d.processes.items ≡ lined_all lines 0 (map proc_of d.processes.items)
  pub next : d.next ≡ count_all (map proc_of d.processes.items)
