-- The syntax tree of a process, without where its parts lie in memory.
use Rattle.std.specs.Prelude.{ℕ, List, [], ◌∷◌, Option}
use Rattle.std.specs.Option.{option_map}
use Rattle.script_tree.specs.declared.tree.Operand.{Operand}
use Rattle.script_tree.specs.declared.tree.Sign.{Sign}
use Rattle.script_tree.specs.declared.tree.Names.{Names}
use Rattle.script_tree.specs.declared.tree.Names.TheVariants as names
use Rattle.script_tree.specs.declared.tree.Expr.{Expr as SeenExpr}
use Rattle.script_tree.specs.declared.tree.Terms.{Terms as SeenTerms, Nothing as SeenNothing, More'}
use Rattle.script_tree.specs.declared.tree.Term.{Term as SeenTerm, Operand as SeenOperand, Sum'}
use Rattle.script_tree.specs.declared.tree.Exprs.{Exprs}
use Rattle.script_tree.specs.declared.tree.Exprs.TheVariants as exprs
use Rattle.script_tree.specs.declared.tree.Name.{Name}
use Rattle.script_tree.specs.declared.tree.Relation.{Relation}
use Rattle.script_tree.specs.declared.tree.Test.{Test as SeenTest}
use Rattle.script_tree.specs.declared.tree.Event.{Event as SeenEvent, Send, Recv, Always, Never, Cancelled, Joined, Choose', Wrap', Guard', Nack'}
use Rattle.script_tree.specs.declared.tree.Events.{Events as SeenEvents, Nothing as NoEvents, More' as MoreEvents'}
use Rattle.script_tree.specs.declared.tree.Stmt.{Stmt as SeenStmt, Let, Print, Sync', If', Loop', Forever', End, Spawn}
use Rattle.script_tree.specs.declared.tree.Block.{Block as SeenBlock, Done, Then'}
use Rattle.script_tree.specs.declared.tree.LoopBody.{LoopBody as SeenTurn}

mutual
  pub data Term : Type 0 where
    Single : (operand : Operand) → Term
    Sum : (first : Operand) (more : Terms) → Term

  pub data Terms : Type 0 where
    Nothing : Terms
    More : (sign : Sign) (term : Term) (more : Terms) → Terms

-- an operand, and the terms behind it
pub record Expr : Type 0 where
  pub first : Operand
  pub more : Terms

abbrev mutual
  pub terms_of : SeenTerms → Terms
  terms_of SeenNothing = Nothing
  terms_of (More' sign term p rest) = More sign (term_of term) (terms_of rest)

  pub term_of : SeenTerm → Term
  term_of (SeenOperand operand) = Single operand
  term_of (Sum' p first more) = Sum first (terms_of more)

abbrev pub expr_of : SeenExpr → Expr
expr_of e = record { first = e.first; more = terms_of e.more }

-- the members of a list
abbrev pub exprs_of : Exprs → List Expr
exprs_of exprs.Empty = []
exprs_of (exprs.One a) = expr_of a ∷ []
exprs_of (exprs.Two a b) = expr_of a ∷ expr_of b ∷ []
exprs_of (exprs.Three a b c) = expr_of a ∷ expr_of b ∷ expr_of c ∷ []

-- the variables of a list
abbrev pub names_of : Names → List ℕ
names_of (names.One a) = a ∷ []
names_of (names.Two a b) = a ∷ b ∷ []
names_of (names.Three a b c) = a ∷ b ∷ c ∷ []

-- the two sides of a test, and how they are compared
pub record Test : Type 0 where
  pub left : Expr
  pub relation : Relation
  pub right : Expr

abbrev pub test_of : SeenTest → Test
test_of t = record { left = expr_of t.left; relation = t.relation; right = expr_of t.right }

mutual
  pub data Event : Type 0 where
    Sends : (channel : Name) (list : List Expr) → Event
    Receives : (channel : Name) → Event
    IsReady : (list : List Expr) → Event
    IsNever : Event
    IsCancelled : (nack : Name) → Event
    IsJoined : (process : ℕ) → Event
    Chooses : (members : Events) → Event
    Wraps : (event : Event) (names : Option (List ℕ)) (list : List Expr) → Event
    Guards : (body : Block) (event : Event) → Event
    Nacks : (name : ℕ) (body : Block) (event : Event) → Event

  pub data Events : Type 0 where
    NoMembers : Events
    Members : (event : Event) (others : Events) → Events

  pub data Stmt : Type 0 where
    Lets : (name : ℕ) (value : Expr) → Stmt
    Prints : (value : Expr) → Stmt
    Syncs : (names : Option (List ℕ)) (event : Event) → Stmt
    Branches : (test : Test) (first second : Block) → Stmt
    Loops : (times : ℕ) (names : Option (List ℕ)) (event : Event) (rest : Block) → Stmt
    LoopsForever : (names : Option (List ℕ)) (event : Event) (rest : Block) → Stmt
    Ends : Stmt
    Spawns : (process : ℕ) → Stmt

  pub data Block : Type 0 where
    Stops : Block
    Runs : (stmt : Stmt) (rest : Block) → Block

abbrev mutual
  pub event_of : SeenEvent → Event
  event_of (Send channel list) = Sends channel (exprs_of list)
  event_of (Recv channel) = Receives channel
  event_of (Always list) = IsReady (exprs_of list)
  event_of Never = IsNever
  event_of (Cancelled nack) = IsCancelled nack
  event_of (Joined process) = IsJoined process
  event_of (Choose' p members) = Chooses (events_of members)
  event_of (Wrap' p event names list) = Wraps (event_of event) (option_map names_of names) (exprs_of list)
  event_of (Guard' p body q event) = Guards (block_of body) (event_of event)
  event_of (Nack' name p body q event) = Nacks name (block_of body) (event_of event)

  pub events_of : SeenEvents → Events
  events_of NoEvents = NoMembers
  events_of (MoreEvents' p event q others) = Members (event_of event) (events_of others)

  pub stmt_of : SeenStmt → Stmt
  stmt_of (Let name value) = Lets name (expr_of value)
  stmt_of (Print value) = Prints (expr_of value)
  stmt_of (Sync' names p event) = Syncs (option_map names_of names) (event_of event)
  stmt_of (If' test p first q second) = Branches (test_of test) (block_of first) (block_of second)
  stmt_of (Loop' times p names q event r rest line) = Loops times (option_map names_of names) (event_of event) (block_of rest)
  stmt_of (Forever' p names q event r rest line) = LoopsForever (option_map names_of names) (event_of event) (block_of rest)
  stmt_of End = Ends
  stmt_of (Spawn process) = Spawns process

  pub block_of : SeenBlock → Block
  block_of Done = Stops
  block_of (Then' stmt line p rest) = Runs (stmt_of stmt) (block_of rest)

-- what a loop's body begins with, and what stands behind it
pub record LoopBody : Type 0 where
  pub names : Option (List ℕ)
  pub event : Event
  pub rest : Block

abbrev pub turn_of : SeenTurn → LoopBody
turn_of t = record { names = option_map names_of t.names; event = event_of t.event.value; rest = block_of t.rest.value }
