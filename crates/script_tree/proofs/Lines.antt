-- Without its lines the tree is what it was.
use Rattle.std.proofs.Common.{◌≡◌, refl, ap, ap₂}
use Rattle.std.specs.Option.{option_map}
use Rattle.script_tree.specs.Trees as plain
use Rattle.script_tree.specs.Trees.{exprs_of, names_of, test_of}
use Rattle.script_tree.specs.declared.tree.Event.{Event as SeenEvent, Send, Recv, Always, Never, Cancelled, Joined, Choose', Wrap', Guard', Nack'}
use Rattle.script_tree.specs.declared.tree.Events.{Events as SeenEvents, Nothing as NoEvents, More' as MoreEvents'}
use Rattle.script_tree.specs.declared.tree.Stmt.{Stmt as SeenStmt, Let, Print, Sync', If', Loop', Forever', End, Spawn}
use Rattle.script_tree.specs.declared.tree.Block.{Block as SeenBlock, Done, Then'}
use Rattle.script_tree.specs.Lined.{block_of, event_of, events_of, stmt_of, plain_block, plain_event, plain_members, plain_stmt}

mutual
  pub event_plain : (e : SeenEvent) → plain_event (event_of e) ≡ plain.event_of e
  event_plain (Send channel list) = refl
  event_plain (Recv channel) = refl
  event_plain (Always list) = refl
  event_plain Never = refl
  event_plain (Cancelled nack) = refl
  event_plain (Joined process) = refl
  event_plain (Choose' p members) = ap plain.Chooses (events_plain members)
  event_plain (Wrap' p event names list) = ap (λ e. plain.Wraps e (option_map names_of names) (exprs_of list)) (event_plain event)
  event_plain (Guard' p body q event) = ap₂ plain.Guards (block_plain body) (event_plain event)
  event_plain (Nack' name p body q event) = ap₂ (plain.Nacks name) (block_plain body) (event_plain event)

  pub events_plain : (es : SeenEvents) → plain_members (events_of es) ≡ plain.events_of es
  events_plain NoEvents = refl
  events_plain (MoreEvents' p event q others) = ap₂ plain.Members (event_plain event) (events_plain others)

  pub stmt_plain : (stmt : SeenStmt) → plain_stmt (stmt_of stmt) ≡ plain.stmt_of stmt
  stmt_plain (Let name value) = refl
  stmt_plain (Print value) = refl
  stmt_plain (Sync' names p event) = ap (plain.Syncs (option_map names_of names)) (event_plain event)
  stmt_plain (If' test p first q second) = ap₂ (plain.Branches (test_of test)) (block_plain first) (block_plain second)
  stmt_plain (Loop' times p names q event r rest line) = ap₂ (plain.Loops times (option_map names_of names)) (event_plain event) (block_plain rest)
  stmt_plain (Forever' p names q event r rest line) = ap₂ (plain.LoopsForever (option_map names_of names)) (event_plain event) (block_plain rest)
  stmt_plain End = refl
  stmt_plain (Spawn process) = refl

  pub block_plain : (b : SeenBlock) → plain_block (block_of b) ≡ plain.block_of b
  block_plain Done = refl
  block_plain (Then' stmt line p rest) = ap₂ plain.Runs (stmt_plain stmt) (block_plain rest)
