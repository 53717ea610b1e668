-- A tree, written with names in place of numbers, and with parentheses only round a right operand that
-- is itself a sum.
use Rattle.std.specs.Prelude.{ℕ, List, [], map, Option, Some, None, slice_get}
use Rattle.script_tree.specs.declared.tree.Name.{Name}
use Rattle.script_tree.specs.declared.tree.Name.TheVariants.{Variable, Channel}
use Rattle.script_tree.specs.declared.tree.Operand.{Operand}
use Rattle.script_tree.specs.declared.tree.Operand.TheVariants.{Number, Named}
use Rattle.script_tree.specs.Trees as trees
use Rattle.script_tree.specs.Processes.{Proc}
use Rattle.script_grammar.specs.Written.{Term, OfNumber, OfName, Grouped, Terms, NoMore, Further, Expr, Test, Event, Events, NoEvents, Another, Stmt, Block, Done, Then, Process}
use Rattle.script_grammar.specs.Written as written
use Rattle.script_grammar.specs.Meaning.{Names}
use Rattle.script.specs.Scripts.{Script}

abbrev pub text_or_none : Option (List ℕ) → List ℕ
text_or_none (Some text) = text
text_or_none None = []

abbrev pub variable : Names → ℕ → List ℕ
variable ns v = text_or_none (slice_get ns.variables v)

-- the name that a name's number stands for
abbrev pub name_of : Names → Name → List ℕ
name_of ns (Variable v) = variable ns v
name_of ns (Channel c) = text_or_none (slice_get ns.channels c)

-- the name of a process
abbrev pub process_name : Names → ℕ → List ℕ
process_name ns p = text_or_none (slice_get ns.processes p)

-- the variables of a list that may be there
abbrev pub names_of : Names → Option (List ℕ) → List (List ℕ)
names_of ns (Some list) = map (variable ns) list
names_of ns None = []

abbrev pub plain_operand : Names → Operand → Term
plain_operand ns (Number n) = OfNumber n
plain_operand ns (Named name) = OfName (name_of ns name)

abbrev mutual
  pub plain_term : Names → trees.Term → Term
  plain_term ns (trees.Single operand) = plain_operand ns operand
  plain_term ns (trees.Sum first more) = Grouped (plain_operand ns first) (plain_terms ns more)

  pub plain_terms : Names → trees.Terms → Terms
  plain_terms ns trees.Nothing = NoMore
  plain_terms ns (trees.More sign term more) = Further sign (plain_term ns term) (plain_terms ns more)

abbrev pub plain_expr : Names → trees.Expr → Expr
plain_expr ns e = record { first = plain_operand ns e.first; more = plain_terms ns e.more }

abbrev pub plain_list : Names → List trees.Expr → List Expr
plain_list ns list = map (plain_expr ns) list

abbrev pub plain_test : Names → trees.Test → Test
plain_test ns t = record { left = plain_expr ns t.left; relation = t.relation; right = plain_expr ns t.right }

abbrev mutual
  pub plain_event : Names → trees.Event → Event
  plain_event ns (trees.Sends channel list) = written.Send (name_of ns channel) (plain_list ns list)
  plain_event ns (trees.Receives channel) = written.Recv (name_of ns channel)
  plain_event ns (trees.IsReady list) = written.Always (plain_list ns list)
  plain_event ns trees.IsNever = written.Never
  plain_event ns (trees.IsCancelled nack) = written.Cancelled (name_of ns nack)
  plain_event ns (trees.IsJoined process) = written.Joined (process_name ns process)
  plain_event ns (trees.Chooses members) = written.Choose (plain_events ns members)
  plain_event ns (trees.Wraps event names list) = written.Wrap (plain_event ns event) (names_of ns names) (plain_list ns list)
  plain_event ns (trees.Guards body event) = written.Guard (plain_block ns body) (plain_event ns event)
  plain_event ns (trees.Nacks name body event) = written.Nack (variable ns name) (plain_block ns body) (plain_event ns event)

  pub plain_events : Names → trees.Events → Events
  plain_events ns trees.NoMembers = NoEvents
  plain_events ns (trees.Members event others) = Another (plain_event ns event) (plain_events ns others)

  pub plain_stmt : Names → trees.Stmt → Stmt
  plain_stmt ns (trees.Lets name value) = written.Let (variable ns name) (plain_expr ns value)
  plain_stmt ns (trees.Prints value) = written.Print (plain_expr ns value)
  plain_stmt ns (trees.Syncs names event) = written.Sync (names_of ns names) (plain_event ns event)
  plain_stmt ns (trees.Branches test first second) = written.If (plain_test ns test) (plain_block ns first) (plain_block ns second)
  plain_stmt ns (trees.Loops times names event rest) = written.Loop times (Then (written.Sync (names_of ns names) (plain_event ns event)) (plain_block ns rest))
  plain_stmt ns (trees.LoopsForever names event rest) = written.Forever (Then (written.Sync (names_of ns names) (plain_event ns event)) (plain_block ns rest))
  plain_stmt ns trees.Ends = written.End
  plain_stmt ns (trees.Spawns process) = written.Spawn (process_name ns process)

  pub plain_block : Names → trees.Block → Block
  plain_block ns trees.Stops = Done
  plain_block ns (trees.Runs stmt rest) = Then (plain_stmt ns stmt) (plain_block ns rest)

abbrev pub process_names : List Proc → List (List ℕ)
process_names ps = map (λ p. p.name) ps

-- the names of a process of a script with such channels and processes
abbrev pub names_in : List (List ℕ) → List (List ℕ) → Proc → Names
names_in channels processes p = record { channels = channels; processes = processes; variables = p.variables; spawned = [] }

abbrev pub plain_process : List (List ℕ) → List (List ℕ) → Proc → Process
plain_process channels processes p = record { name = p.name; body = plain_block (names_in channels processes p) p.body }

unfoldable pub plain : Script → written.Script
plain s = record { channels = s.channels; processes = map (plain_process s.channels (process_names s.processes)) s.processes }
