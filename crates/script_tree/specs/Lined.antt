-- The tree of a process with its lines: of each statement, and of the sync that a loop's turns begin with.
use Rattle.std.specs.Prelude.{ℕ, List, Option}
use Rattle.std.specs.Option.{option_map}
use Rattle.script_tree.specs.Limits as limits
use Rattle.script_tree.specs.Trees as plain
use Rattle.script_tree.specs.Trees.{Expr, Test, expr_of, exprs_of, names_of, test_of}
use Rattle.script_tree.specs.declared.tree.Name.{Name}
use Rattle.script_tree.specs.declared.tree.Event.{Event as SeenEvent, Send, Recv, Always, Never, Cancelled, Joined, Choose', Wrap', Guard', Nack'}
use Rattle.script_tree.specs.declared.tree.Events.{Events as SeenEvents, Nothing as NoEvents, More' as MoreEvents'}
use Rattle.script_tree.specs.declared.tree.Stmt.{Stmt as SeenStmt, Let, Print, Sync', If', Loop', Forever', End, Spawn}
use Rattle.script_tree.specs.declared.tree.Block.{Block as SeenBlock, Done, Then'}

mutual
  pub data Event : Type 0 where
    Sends : (channel : Name) (list : List Expr) → Event
    Receives : (channel : Name) → Event
    IsReady : (list : List Expr) → Event
    IsNever : Event
    IsCancelled : (nack : Name) → Event
    IsJoined : (process : ℕ) → Event
    Chooses : (members : Events) → Event
    Wraps : (event : Event) (names : Option (List ℕ)) (list : List Expr) → Event
    Guards : (body : Block) (event : Event) → Event
    Nacks : (name : ℕ) (body : Block) (event : Event) → Event

  pub data Events : Type 0 where
    NoMembers : Events
    Members : (event : Event) (others : Events) → Events

  -- the line of a loop is that of its sync
  pub data Stmt : Type 0 where
    Lets : (name : ℕ) (value : Expr) → Stmt
    Prints : (value : Expr) → Stmt
    Syncs : (names : Option (List ℕ)) (event : Event) → Stmt
    Branches : (test : Test) (first second : Block) → Stmt
    Loops : (times line : ℕ) (names : Option (List ℕ)) (event : Event) (rest : Block) → Stmt
    LoopsForever : (line : ℕ) (names : Option (List ℕ)) (event : Event) (rest : Block) → Stmt
    Ends : Stmt
    Spawns : (process : ℕ) → Stmt

  pub data Block : Type 0 where
    Stops : Block
    Runs : (stmt : Stmt) (line : ℕ) (rest : Block) → Block

abbrev mutual
  pub event_of : SeenEvent → Event
  event_of (Send channel list) = Sends channel (exprs_of list)
  event_of (Recv channel) = Receives channel
  event_of (Always list) = IsReady (exprs_of list)
  event_of Never = IsNever
  event_of (Cancelled nack) = IsCancelled nack
  event_of (Joined process) = IsJoined process
  event_of (Choose' p members) = Chooses (events_of members)
  event_of (Wrap' p event names list) = Wraps (event_of event) (option_map names_of names) (exprs_of list)
  event_of (Guard' p body q event) = Guards (block_of body) (event_of event)
  event_of (Nack' name p body q event) = Nacks name (block_of body) (event_of event)

  pub events_of : SeenEvents → Events
  events_of NoEvents = NoMembers
  events_of (MoreEvents' p event q others) = Members (event_of event) (events_of others)

  pub stmt_of : SeenStmt → Stmt
  stmt_of (Let name value) = Lets name (expr_of value)
  stmt_of (Print value) = Prints (expr_of value)
  stmt_of (Sync' names p event) = Syncs (option_map names_of names) (event_of event)
  stmt_of (If' test p first q second) = Branches (test_of test) (block_of first) (block_of second)
  stmt_of (Loop' times p names q event r rest line) = Loops times line (option_map names_of names) (event_of event) (block_of rest)
  stmt_of (Forever' p names q event r rest line) = LoopsForever line (option_map names_of names) (event_of event) (block_of rest)
  stmt_of End = Ends
  stmt_of (Spawn process) = Spawns process

  pub block_of : SeenBlock → Block
  block_of Done = Stops
  block_of (Then' stmt line p rest) = Runs (stmt_of stmt) line (block_of rest)

-- a sync with its line, and what stands behind it: a loop's turn is no more than that
pub record LoopBody : Type 0 where
  pub line : ℕ
  pub names : Option (List ℕ)
  pub event : Event
  pub rest : Block

-- WITHOUT THE LINES

abbrev mutual
  pub plain_event : Event → plain.Event
  plain_event (Sends channel list) = plain.Sends channel list
  plain_event (Receives channel) = plain.Receives channel
  plain_event (IsReady list) = plain.IsReady list
  plain_event IsNever = plain.IsNever
  plain_event (IsCancelled nack) = plain.IsCancelled nack
  plain_event (IsJoined process) = plain.IsJoined process
  plain_event (Chooses members) = plain.Chooses (plain_members members)
  plain_event (Wraps event names list) = plain.Wraps (plain_event event) names list
  plain_event (Guards body event) = plain.Guards (plain_block body) (plain_event event)
  plain_event (Nacks name body event) = plain.Nacks name (plain_block body) (plain_event event)

  pub plain_members : Events → plain.Events
  plain_members NoMembers = plain.NoMembers
  plain_members (Members event others) = plain.Members (plain_event event) (plain_members others)

  pub plain_stmt : Stmt → plain.Stmt
  plain_stmt (Lets name value) = plain.Lets name value
  plain_stmt (Prints value) = plain.Prints value
  plain_stmt (Syncs names event) = plain.Syncs names (plain_event event)
  plain_stmt (Branches test first second) = plain.Branches test (plain_block first) (plain_block second)
  plain_stmt (Loops times line names event rest) = plain.Loops times names (plain_event event) (plain_block rest)
  plain_stmt (LoopsForever line names event rest) = plain.LoopsForever names (plain_event event) (plain_block rest)
  plain_stmt Ends = plain.Ends
  plain_stmt (Spawns process) = plain.Spawns process

  pub plain_block : Block → plain.Block
  plain_block Stops = plain.Stops
  plain_block (Runs stmt line rest) = plain.Runs (plain_stmt stmt) (plain_block rest)

-- how many base events and nacks a sync has
abbrev pub base_count : Event → ℕ
base_count event = limits.base_count (plain_event event)

abbrev pub bases_of_all : Events → ℕ
bases_of_all members = limits.bases_of_all (plain_members members)

abbrev pub nack_count : Event → ℕ
nack_count event = limits.nack_count (plain_event event)

abbrev pub nacks_of_all : Events → ℕ
nacks_of_all members = limits.nacks_of_all (plain_members members)

abbrev pub IsSmall : Event → Type 0
IsSmall event = limits.IsSmall (plain_event event)
