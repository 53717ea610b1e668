-- What is written means: a tree with numbers in place of names, if each name stands for something and
-- the limits of names, lists and syncs are kept.
use Rattle.std.specs.Prelude.{ℕ, ◌+◌, ◌==◌, List, [], ◌∷◌, ◌++◌, length, Bool, true, false, ◌||◌, ◌&&◌, Option, Some, None, is_some, nat_lt, nat_le, if◌then◌else◌}
use Rattle.std.specs.Option.{option_map}
use Rattle.std.specs.Str.{bytes_eq}
use Rattle.script_tree.specs.declared.tree.Name.{Name}
use Rattle.script_tree.specs.declared.tree.Name.TheVariants.{Variable, Channel}
use Rattle.script_tree.specs.declared.tree.Operand.{Operand}
use Rattle.script_tree.specs.declared.tree.Operand.TheVariants.{Number, Named}
use Rattle.script_tree.specs.declared.tree.Sign.{Sign}
use Rattle.script_tree.specs.Trees as trees
use Rattle.script_tree.specs.Trees.{LoopBody, Single, Sum, Nothing, More}
use Rattle.script_tree.specs.Limits.{base_count, nack_count}
use Rattle.script_tree.specs.Processes.{Proc}
use Rattle.script_grammar.specs.Written.{Term, OfNumber, OfName, Grouped, Terms, NoMore, Further, Expr, Test, Event, Events, NoEvents, Another, Stmt, Block, Done, Then, Process}
use Rattle.script_grammar.specs.Written as written

infixl 10 ◌>>=◌
abbrev pub ◌>>=◌ : {A B : Type 0} → Option A → (A → Option B) → Option B
(Some x) >>= f = f x
None >>= f = None

abbrev pub if_some : {A B : Type 0} → Option A → (A → B) → B → B
if_some (Some x) f other = f x
if_some None f other = other

-- NAMES

-- where the name stands first in a list of names, from 0
abbrev pub place : List ℕ → List (List ℕ) → Option ℕ
place name [] = None
place name (x ∷ names) = if bytes_eq name x then Some 0 else option_map (λ n. n + 1) (place name names)

abbrev pub channel_of : ℕ → Option Name
channel_of c = if nat_lt c 256 then Some (Channel c) else None

-- the declared channels, the processes whose blocks have ended before, and the variables that are bound so
-- far, each by its place; and which of these processes are spawned so far
pub record Names : Type 0 where
  pub channels : List (List ℕ)
  pub processes : List (List ℕ)
  pub variables : List (List ℕ)
  pub spawned : List ℕ

-- the names at the first token of a process
abbrev pub first_names : List (List ℕ) → List (List ℕ) → List ℕ → Names
first_names channels processes spawned = record { channels = channels; processes = processes; variables = []; spawned = spawned }

unfoldable pub name_meaning : Names → List ℕ → Option Name
name_meaning ns text = if_some (place text ns.channels) channel_of (if_some (place text ns.variables) (λ v. Some (Variable v)) None)

-- EXPRESSIONS

-- an operand, and the terms behind it
abbrev pub Parts : Type 0
Parts = Operand × List (Sign × trees.Term)

-- the terms, linked
unfoldable pub linked : List (Sign × trees.Term) → trees.Terms
linked [] = Nothing
linked (t ∷ ts) = More t.0 t.1 (linked ts)

abbrev pub whole : Parts → trees.Expr
whole p = record { first = p.0; more = linked p.1 }

-- an operand alone is no sum
abbrev pub as_term : Operand → List (Sign × trees.Term) → trees.Term
as_term first [] = Single first
as_term first (t ∷ ts) = Sum first (linked (t ∷ ts))

abbrev pub parts_term : Parts → trees.Term
parts_term p = as_term p.0 p.1

-- An expression in parentheses in front of others is read with them, from left to right.
unfoldable mutual
  pub term_meaning : Names → Term → Option Parts
  term_meaning ns (OfNumber n) = Some (Number n, [])
  term_meaning ns (OfName text) = name_meaning ns text >>= λ name. Some (Named name, [])
  term_meaning ns (Grouped first more) = do
    p ← term_meaning ns first
    ts ← terms_meaning ns more
    Some (p.0, p.1 ++ ts)

  pub terms_meaning : Names → Terms → Option (List (Sign × trees.Term))
  terms_meaning ns NoMore = Some []
  terms_meaning ns (Further sign term more) = do
    p ← term_meaning ns term
    ts ← terms_meaning ns more
    Some ((sign, parts_term p) ∷ ts)

unfoldable pub expr_meaning : Names → Expr → Option trees.Expr
expr_meaning ns e = term_meaning ns (Grouped e.first e.more) >>= λ p. Some (whole p)

unfoldable pub test_meaning : Names → Test → Option trees.Test
test_meaning ns t = do
  left ← expr_meaning ns t.left
  right ← expr_meaning ns t.right
  Some (record { left = left; relation = t.relation; right = right })

unfoldable pub exprs_meaning : Names → List Expr → Option (List trees.Expr)
exprs_meaning ns [] = Some []
exprs_meaning ns (e ∷ es) = do
  x ← expr_meaning ns e
  xs ← exprs_meaning ns es
  Some (x ∷ xs)

-- at most three
unfoldable pub list_meaning : Names → List Expr → Option (List trees.Expr)
list_meaning ns es = if nat_le (length es) 3 then exprs_meaning ns es else None

-- NAMES THAT ARE BOUND

-- whether a number is one of a list
abbrev pub is_among : List ℕ → ℕ → Bool
is_among [] v = false
is_among (x ∷ xs) v = (v == x) || is_among xs v

abbrev pub is_listed : List ℕ → Option ℕ → Bool
is_listed list (Some v) = is_among list v
is_listed list None = false

-- the variable that a name is bound to, and the names from there on
abbrev pub bound : Names → List ℕ → ℕ × Names
bound ns text = if_some (place text ns.variables) (λ v. (v, ns)) (length ns.variables, record ns { variables = ns.variables ++ text ∷ [] })

-- A name that is bound behind the variables of its list: it is no channel's, stands in the list once, and
-- has at most 32 bytes.
unfoldable pub bind : List ℕ → Names → List ℕ → Option (ℕ × Names)
bind list ns text =
    if is_some (place text ns.channels) || is_listed list (place text ns.variables) then None
    else (if nat_lt 32 (length text) then None else Some (bound ns text))

-- a list of variables, and the names behind it
unfoldable pub bind_all : List ℕ → Names → List (List ℕ) → Option (List ℕ × Names)
bind_all list ns [] = Some (list, ns)
bind_all list ns (text ∷ texts) = bind list ns text >>= λ b. bind_all (list ++ b.0 ∷ []) b.1 texts

-- at most three, if there are any
unfoldable pub bind_names : Names → List (List ℕ) → Option (Option (List ℕ) × Names)
bind_names ns [] = Some (None, ns)
bind_names ns (text ∷ texts) =
    if nat_le (length texts) 2 then (bind_all [] ns (text ∷ texts) >>= λ b. Some (Some b.0, b.1)) else None

-- EVENTS, STATEMENTS AND BLOCKS
-- The names that are bound go on from token to token.

-- at most eight base events, and at most four nacks
abbrev pub is_small : trees.Event → Bool
is_small e = nat_le (base_count e) 8 && nat_le (nack_count e) 4

-- a loop's body, whose first statement is a sync
abbrev pub as_turn : trees.Block → Option LoopBody
as_turn trees.Stops = None
as_turn (trees.Runs (trees.Syncs names event) rest) = Some (record { names = names; event = event; rest = rest })
as_turn (trees.Runs (trees.Lets name value) rest) = None
as_turn (trees.Runs (trees.Prints value) rest) = None
as_turn (trees.Runs (trees.Branches test first second) rest) = None
as_turn (trees.Runs (trees.Loops times names event body) rest) = None
as_turn (trees.Runs (trees.LoopsForever names event body) rest) = None
as_turn (trees.Runs trees.Ends rest) = None
as_turn (trees.Runs (trees.Spawns process) rest) = None

-- Statements are read with whether loops may stand there. They may not in a block of a guard or a nack.
unfoldable mutual
  pub event_meaning : Names → Event → Option (trees.Event × Names)
  event_meaning ns (written.Send channel list) = do
    c ← name_meaning ns channel
    l ← list_meaning ns list
    Some (trees.Sends c l, ns)
  event_meaning ns (written.Recv channel) = name_meaning ns channel >>= λ c. Some (trees.Receives c, ns)
  event_meaning ns (written.Always list) = list_meaning ns list >>= λ l. Some (trees.IsReady l, ns)
  event_meaning ns written.Never = Some (trees.IsNever, ns)
  event_meaning ns (written.Cancelled nack) = name_meaning ns nack >>= λ n. Some (trees.IsCancelled n, ns)
  event_meaning ns (written.Joined process) = place process ns.processes >>= λ p. Some (trees.IsJoined p, ns)
  event_meaning ns (written.Choose members) = events_meaning ns members >>= λ m. Some (trees.Chooses m.0, m.1)
  event_meaning ns (written.Wrap event names list) = do
    e ← event_meaning ns event
    b ← bind_names e.1 names
    l ← list_meaning b.1 list
    Some (trees.Wraps e.0 b.0 l, b.1)
  event_meaning ns (written.Guard body event) = do
    b ← block_meaning false ns body
    e ← event_meaning b.1 event
    Some (trees.Guards b.0 e.0, e.1)
  event_meaning ns (written.Nack name body event) = do
    n ← bind [] ns name
    b ← block_meaning false n.1 body
    e ← event_meaning b.1 event
    Some (trees.Nacks n.0 b.0 e.0, e.1)

  pub events_meaning : Names → Events → Option (trees.Events × Names)
  events_meaning ns NoEvents = Some (trees.NoMembers, ns)
  events_meaning ns (Another event others) = do
    e ← event_meaning ns event
    m ← events_meaning e.1 others
    Some (trees.Members e.0 m.0, m.1)

  pub stmt_meaning : Bool → Names → Stmt → Option (trees.Stmt × Names)
  stmt_meaning loops ns (written.Let name value) = do
    n ← bind [] ns name
    v ← expr_meaning n.1 value
    Some (trees.Lets n.0 v, n.1)
  stmt_meaning loops ns (written.Print value) = expr_meaning ns value >>= λ v. Some (trees.Prints v, ns)
  stmt_meaning loops ns (written.Sync names event) = do
    b ← bind_names ns names
    e ← event_meaning b.1 event
    if is_small e.0 then Some (trees.Syncs b.0 e.0, e.1) else None
  stmt_meaning loops ns (written.If test first second) = do
    t ← test_meaning ns test
    f ← block_meaning loops ns first
    s ← block_meaning loops f.1 second
    Some (trees.Branches t f.0 s.0, s.1)
  stmt_meaning loops ns (written.Loop times body) = if loops then (do
    b ← block_meaning true ns body
    t ← as_turn b.0
    Some (trees.Loops times t.names t.event t.rest, b.1)) else None
  stmt_meaning loops ns (written.Forever body) = if loops then (do
    b ← block_meaning true ns body
    t ← as_turn b.0
    Some (trees.LoopsForever t.names t.event t.rest, b.1)) else None
  stmt_meaning loops ns written.End = Some (trees.Ends, ns)
  stmt_meaning loops ns (written.Spawn process) = do
    p ← place process ns.processes
    if is_among ns.spawned p then None else Some (trees.Spawns p, record ns { spawned = ns.spawned ++ p ∷ [] })

  pub block_meaning : Bool → Names → Block → Option (trees.Block × Names)
  block_meaning loops ns Done = Some (trees.Stops, ns)
  block_meaning loops ns (Then stmt others) = do
    s ← stmt_meaning loops ns stmt
    b ← block_meaning loops s.1 others
    Some (trees.Runs s.0 b.0, b.1)

-- SCRIPTS

-- a name that is declared, as one of at most so many: it is not declared before, and has at most 32 bytes
unfoldable pub declare : ℕ → List (List ℕ) → List ℕ → Option (List (List ℕ))
declare limit names text =
    if is_some (place text names) || (nat_le limit (length names) || nat_lt 32 (length text)) then None else Some (names ++ text ∷ [])

-- the channels behind others
unfoldable pub channels_meaning : List (List ℕ) → List (List ℕ) → Option (List (List ℕ))
channels_meaning names [] = Some names
channels_meaning names (text ∷ texts) = declare 256 names text >>= λ names. channels_meaning names texts

-- The processes behind others with such names, some of which are spawned. A process begins with the
-- channels, and with the processes before it.
unfoldable pub processes_meaning : List (List ℕ) → List (List ℕ) → List ℕ → List Process → Option (List Proc)
processes_meaning channels names spawned [] = Some []
processes_meaning channels names spawned (p ∷ ps) = do
  grown ← declare 64 names p.name
  b ← block_meaning true (first_names channels names spawned) p.body
  qs ← processes_meaning channels grown b.1.spawned ps
  Some (record { name = p.name; body = b.0; variables = b.1.variables; channels = length channels; earlier = length names } ∷ qs)
