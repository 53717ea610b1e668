-- The parts of a canonical text, one behind the other.
use Rattle.std.specs.Prelude.{ℕ, List, [], ◌∷◌, ◌++◌, codes, Option, Some, None}
use Rattle.std.specs.Fmt.{decimal}
use Rattle.script_tree.specs.declared.tree.Name.{Name}
use Rattle.script_tree.specs.declared.tree.Operand.{Operand}
use Rattle.script_tree.specs.declared.tree.Operand.TheVariants.{Number, Named}
use Rattle.script_tree.specs.declared.tree.Sign.{Sign}
use Rattle.script_tree.specs.declared.tree.Sign.TheVariants.{Plus, Minus}
use Rattle.script_tree.specs.declared.tree.Relation.{Relation}
use Rattle.script_tree.specs.declared.tree.Relation.TheVariants.{Equal, Less}
use Rattle.script_tree.specs.Trees.{Term, Single, Sum, Terms, Nothing, More, Expr, Test, Event, Sends, Receives, IsReady, IsNever, IsCancelled, IsJoined, Chooses, Wraps, Guards, Nacks, Events, NoMembers, Members, Stmt, Lets, Prints, Syncs, Branches, Loops, LoopsForever, Ends, Spawns, Block, Stops, Runs, LoopBody}
use Rattle.script_tree.specs.Processes.{Proc}
use Rattle.script_grammar.specs.Meaning.{Names}
use Rattle.script.specs.Scripts.{Script}
use Rattle.script_writer.specs.Plain.{variable, name_of, process_name, process_names, names_in}

abbrev pub variable_text : Names → ℕ → List ℕ
variable_text ns v = variable ns v ++ 32 ∷ []

abbrev pub name_text : Names → Name → List ℕ
name_text ns name = name_of ns name ++ 32 ∷ []

abbrev pub process_name_text : Names → ℕ → List ℕ
process_name_text ns p = process_name ns p ++ 32 ∷ []

abbrev pub operand_text : Names → Operand → List ℕ
operand_text ns (Number n) = decimal n ++ 32 ∷ []
operand_text ns (Named name) = name_text ns name

abbrev pub sign_text : Sign → List ℕ
sign_text Plus = codes "+ "
sign_text Minus = codes "- "

abbrev mutual
  pub term_text : Names → Term → List ℕ
  term_text ns (Single operand) = operand_text ns operand
  term_text ns (Sum first more) = codes "( " ++ operand_text ns first ++ terms_text ns more ++ codes ") "

  pub terms_text : Names → Terms → List ℕ
  terms_text ns Nothing = []
  terms_text ns (More sign term more) = sign_text sign ++ term_text ns term ++ terms_text ns more

abbrev pub expr_text : Names → Expr → List ℕ
expr_text ns e = operand_text ns e.first ++ terms_text ns e.more

abbrev pub others_text : Names → List Expr → List ℕ
others_text ns [] = []
others_text ns (e ∷ es) = codes ", " ++ expr_text ns e ++ others_text ns es

abbrev pub members_text : Names → List Expr → List ℕ
members_text ns [] = []
members_text ns (e ∷ es) = expr_text ns e ++ others_text ns es

abbrev pub list_text : Names → List Expr → List ℕ
list_text ns es = codes "( " ++ members_text ns es ++ codes ") "

abbrev pub relation_text : Relation → List ℕ
relation_text Equal = codes "= "
relation_text Less = codes "< "

abbrev pub test_text : Names → Test → List ℕ
test_text ns t = expr_text ns t.left ++ relation_text t.relation ++ expr_text ns t.right

abbrev pub other_names_text : Names → List ℕ → List ℕ
other_names_text ns [] = []
other_names_text ns (v ∷ vs) = codes ", " ++ variable_text ns v ++ other_names_text ns vs

abbrev pub names_text : Names → List ℕ → List ℕ
names_text ns [] = []
names_text ns (v ∷ vs) = variable_text ns v ++ other_names_text ns vs

abbrev pub as_text : Names → Option (List ℕ) → List ℕ
as_text ns None = []
as_text ns (Some []) = []
as_text ns (Some (v ∷ vs)) = codes "as " ++ names_text ns (v ∷ vs)

abbrev pub received_text : Names → Option (List ℕ) → List ℕ
received_text ns None = []
received_text ns (Some []) = []
received_text ns (Some (v ∷ vs)) = names_text ns (v ∷ vs) ++ codes "<- "

abbrev mutual
  pub event_text : Names → Event → List ℕ
  event_text ns (Sends channel list) = codes "send " ++ name_text ns channel ++ list_text ns list
  event_text ns (Receives channel) = codes "recv " ++ name_text ns channel
  event_text ns (IsReady list) = codes "always " ++ list_text ns list
  event_text ns IsNever = codes "never "
  event_text ns (IsCancelled nack) = codes "cancelled " ++ name_text ns nack
  event_text ns (IsJoined process) = codes "joined " ++ process_name_text ns process
  event_text ns (Chooses members) = codes "choose [ " ++ events_text ns members ++ codes "] "
  event_text ns (Wraps event names list) = codes "wrap " ++ event_text ns event ++ as_text ns names ++ codes "to " ++ list_text ns list
  event_text ns (Guards body event) = codes "guard " ++ (123 ∷ 10 ∷ []) ++ stmts_text ns body ++ (125 ∷ 10 ∷ []) ++ event_text ns event
  event_text ns (Nacks name body event) = codes "nack " ++ variable_text ns name ++ (123 ∷ 10 ∷ []) ++ stmts_text ns body ++ (125 ∷ 10 ∷ []) ++ event_text ns event

  pub events_text : Names → Events → List ℕ
  events_text ns NoMembers = []
  events_text ns (Members event others) = event_text ns event ++ more_events_text ns others

  pub more_events_text : Names → Events → List ℕ
  more_events_text ns NoMembers = []
  more_events_text ns (Members event others) = codes ", " ++ event_text ns event ++ more_events_text ns others

  pub stmt_text : Names → Stmt → List ℕ
  stmt_text ns (Lets name value) = codes "let " ++ variable_text ns name ++ codes "= " ++ expr_text ns value ++ (59 ∷ 10 ∷ [])
  stmt_text ns (Prints value) = codes "print " ++ expr_text ns value ++ (59 ∷ 10 ∷ [])
  stmt_text ns (Syncs names event) = received_text ns names ++ codes "sync " ++ event_text ns event ++ (59 ∷ 10 ∷ [])
  stmt_text ns (Branches test first second) = codes "if " ++ test_text ns test ++ (123 ∷ 10 ∷ []) ++ stmts_text ns first ++ (125 ∷ 10 ∷ []) ++ codes "else " ++ (123 ∷ 10 ∷ []) ++ stmts_text ns second ++ (125 ∷ 10 ∷ [])
  stmt_text ns (Loops times names event rest) = codes "loop " ++ decimal times ++ (32 ∷ 123 ∷ 10 ∷ []) ++ received_text ns names ++ codes "sync " ++ event_text ns event ++ (59 ∷ 10 ∷ []) ++ stmts_text ns rest ++ (125 ∷ 10 ∷ [])
  stmt_text ns (LoopsForever names event rest) = codes "forever " ++ (123 ∷ 10 ∷ []) ++ received_text ns names ++ codes "sync " ++ event_text ns event ++ (59 ∷ 10 ∷ []) ++ stmts_text ns rest ++ (125 ∷ 10 ∷ [])
  stmt_text ns Ends = codes "end " ++ (59 ∷ 10 ∷ [])
  stmt_text ns (Spawns process) = codes "spawn " ++ process_name_text ns process ++ (59 ∷ 10 ∷ [])

  pub stmts_text : Names → Block → List ℕ
  stmts_text ns Stops = []
  stmts_text ns (Runs stmt rest) = stmt_text ns stmt ++ stmts_text ns rest

abbrev pub block_text : Names → Block → List ℕ
block_text ns b = (123 ∷ 10 ∷ []) ++ stmts_text ns b ++ (125 ∷ 10 ∷ [])

-- a sync, and what stands behind it in a loop's body
abbrev pub sync_text : Names → Option (List ℕ) → Event → List ℕ
sync_text ns names event = received_text ns names ++ codes "sync " ++ event_text ns event ++ (59 ∷ 10 ∷ [])

abbrev pub turn_text : Names → LoopBody → List ℕ
turn_text ns t = (123 ∷ 10 ∷ []) ++ sync_text ns t.names t.event ++ stmts_text ns t.rest ++ (125 ∷ 10 ∷ [])

abbrev pub channels_text : List (List ℕ) → List ℕ
channels_text [] = []
channels_text (name ∷ names) = codes "channel " ++ name ++ (32 ∷ 59 ∷ 10 ∷ []) ++ channels_text names

abbrev pub process_text : List (List ℕ) → List (List ℕ) → Proc → List ℕ
process_text channels names p = codes "process " ++ p.name ++ (32 ∷ []) ++ block_text (names_in channels names p) p.body

abbrev pub processes_text : List (List ℕ) → List (List ℕ) → List Proc → List ℕ
processes_text channels names [] = []
processes_text channels names (p ∷ ps) = process_text channels names p ++ processes_text channels names ps

abbrev pub script_text : Script → List ℕ
script_text s = channels_text s.channels ++ processes_text s.channels (process_names s.processes) s.processes
