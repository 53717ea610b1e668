-- How a process stands after the results of its syncs: what it does, as in `After`, with the whole thread kept where it stops,
-- and with the line of the statement at which it stands.
use Rattle.std.specs.Prelude.{ℕ, zero, suc, ◌+◌, nat_le, if◌then◌else◌, List, [], ◌∷◌, ◌++◌, length, replicate, Option, Some, None, Result, Ok, Err, slice_get}
use Rattle.event.specs.Tree.{Tree, Single, Nothing, Or, Wrap, Scope, wraps_at}
use Rattle.script_tree.specs.Lined.{Event, Sends, Receives, IsReady, IsNever, IsCancelled, IsJoined, Chooses, Wraps, Guards, Nacks, Events, NoMembers, Members, Stmt, Lets, Prints, Syncs, Branches, Loops, LoopsForever, Ends, Spawns, Block, Stops, Runs, block_of}
use Rattle.script_tree.specs.declared.tree.Block.{Block as SeenBlock}
use Rattle.protocol_values.specs.declared.Atom.{Atom}
use Rattle.protocol_values.specs.declared.Atom.TheVariants.{Nack}
use Rattle.protocol_values.specs.declared.Message.{Message}
use Rattle.protocol_values.specs.declared.Base.{Base}
use Rattle.protocol_values.specs.declared.Base.TheVariants.{OnEnd, Never}
use Rattle.thread.specs.declared.Fault.{Fault}
use Rattle.thread.specs.declared.Fault.TheVariants.{Range}
use Rattle.thread.specs.Values.{Store, expr_value, list_value, test_value, with_atom, with_names}
use Rattle.thread.specs.After as past
use Rattle.thread.specs.After.{Chosen, Said, Wrapping, no_words, with_printed, with_spawned, send_value, recv_value, always_value, cancelled_value}
use Rattle.thread.specs.Machines.{Phase, Ready, Broken, Thread}

-- a thread on its way, with the line of the statement that runs
pub record State : Type 0 where
  pub thread : ℕ
  pub store : Store
  pub nacks : ℕ
  pub said : Said
  pub left : List Chosen
  pub line : ℕ

-- It goes on with a value; or it offers an event, with no result left; or it ends, or fails, where it stands. It strays where a
-- result names an offer that is not there.
pub data Outcome (A : Type 0) : Type 0 where
  Goes : (value : A) → Outcome A
  Offers : (tree : Tree) (at : State) → Outcome A
  Finishes : (at : State) → Outcome A
  Fails : (fault : Fault) (at : State) → Outcome A
  Strays : Outcome A

infixl 10 ◌>>=◌
abbrev pub ◌>>=◌ : {A B : Type 0} → Outcome A → (A → Outcome B) → Outcome B
Goes value >>= f = f value
Offers tree at >>= f = Offers tree at
Finishes at >>= f = Finishes at
Fails fault at >>= f = Fails fault at
Strays >>= f = Strays

-- a value, or the fault in its place
abbrev pub given : {A : Type 0} → State → Result A Fault → Outcome A
given s (Ok value) = Goes value
given s (Err fault) = Fails fault s

-- LINES

abbrev pub at_line : ℕ → State → State
at_line line s = record s { line = line }

abbrev pub set_line : ℕ → State → Outcome State
set_line line s = Goes (at_line line s)

-- COMMITS

abbrev pub with_variable : ℕ → Atom → State → State
with_variable name atom s = record s { store = with_atom name atom s.store }

abbrev pub received : Option (List ℕ) → Message → State → Outcome State
received names message s = given s (with_names names message s.store) >>= λ store. Goes (record s { store = store })

-- a message, and the thread that has it
pub record Having : Type 0 where
  pub message : Message
  pub state : State

abbrev pub wrapped_once : Option Wrapping → Message → State → Outcome Having
wrapped_once None message s = Goes (record { message = message; state = s })
wrapped_once (Some w) message s = do
  t ← received w.names message s
  changed ← given t (list_value t.store w.list)
  Goes (record { message = changed; state = t })

-- the wraps with these numbers, one after another
abbrev pub wrapped : List Wrapping → List ℕ → Message → State → Outcome Having
wrapped wraps [] message s = Goes (record { message = message; state = s })
wrapped wraps (n ∷ ns) message s = wrapped_once (slice_get wraps n) message s >>= λ h. wrapped wraps ns h.message h.state

-- an event whose guards have run, its wraps by their numbers, and the thread that formed it
pub record Formed : Type 0 where
  pub tree : Tree
  pub wraps : List Wrapping
  pub state : State

-- the wraps round the chosen base event change its message, and the names are set to what comes out
abbrev pub committed : Option (List ℕ) → Formed → Option (List ℕ) → Message → State → Outcome State
committed names f None message s = Strays
committed names f (Some numbers) message s =
    wrapped f.wraps numbers message s >>= λ h. received names h.message h.state

-- a sync takes the next result; where none is left, it offers its event
abbrev pub synced_with : Option (List ℕ) → Formed → List Chosen → Outcome State
synced_with names f [] = Offers f.tree f.state
synced_with names f (c ∷ left) = committed names f (wraps_at f.tree c.0) c.1 (record f.state { left = left })

abbrev pub synced : Option (List ℕ) → Formed → Outcome State
synced names f = synced_with names f f.state.left

-- LOOPS

abbrev pub times : ℕ → (State → Outcome State) → State → Outcome State
times zero turn s = Goes s
times (suc n) turn s = turn s >>= times n turn

-- without end: each turn takes a result, so there are no more turns than results and one
abbrev pub endless : (State → Outcome State) → State → Outcome State
endless turn s = times (suc (length s.left)) turn s

-- BASE EVENTS AND NACKS

abbrev pub formed : List Wrapping → State → Base → Outcome Formed
formed wraps s base = Goes (record { tree = Single base; wraps = wraps; state = s })

-- the thread's next nack, which the name is set to; there are 64
abbrev pub with_nack : ℕ → State → Outcome State
with_nack name s =
    if nat_le 64 s.nacks
    then Fails Range s
    else Goes (with_variable name (Nack (record { thread = s.thread; k = s.nacks })) (record s { nacks = s.nacks + 1 }))

abbrev pub as_wrap : ℕ → Formed → Outcome Formed
as_wrap number f = Goes (record f { tree = Wrap number f.tree })

abbrev pub as_scope : ℕ → Formed → Outcome Formed
as_scope nack f = Goes (record f { tree = Scope nack f.tree })

abbrev pub as_first : Formed → Formed → Outcome Formed
as_first f others = Goes (record others { tree = Or f.tree others.tree })

-- STATEMENTS AND EVENTS
-- Behind the body of a guard or a nack, and at each turn of a loop, the thread stands at the line of the sync.

abbrev mutual
  pub run_block : Block → State → Outcome State
  run_block Stops s = Goes s
  run_block (Runs stmt line rest) s = run_stmt line stmt (at_line line s) >>= run_block rest

  -- the statement at this line
  pub run_stmt : ℕ → Stmt → State → Outcome State
  run_stmt line (Lets name value) s =
      given s (expr_value s.store value) >>= λ atom. Goes (with_variable name atom s)
  run_stmt line (Prints value) s =
      given s (expr_value s.store value) >>= λ atom. Goes (record s { said = with_printed atom s.said })
  run_stmt line (Syncs names event) s = resolve line event [] s >>= synced names
  run_stmt line (Branches test first second) s =
      given s (test_value s.store test) >>= λ holds. (if holds then run_block first s else run_block second s)
  run_stmt line (Loops number at names event rest) s =
      times number (λ t. resolve at event [] (at_line at t) >>= synced names >>= run_block rest) s
  run_stmt line (LoopsForever at names event rest) s =
      endless (λ t. resolve at event [] (at_line at t) >>= synced names >>= run_block rest) s
  run_stmt line Ends s = Finishes s
  run_stmt line (Spawns process) s = Goes (record s { said = with_spawned process s.said })

  -- the event of a sync at this line, with the wraps of the sync that were numbered before
  pub resolve : ℕ → Event → List Wrapping → State → Outcome Formed
  resolve line (Sends channel list) wraps s = given s (send_value s.store channel list) >>= formed wraps s
  resolve line (Receives channel) wraps s = given s (recv_value s.store channel) >>= formed wraps s
  resolve line (IsReady list) wraps s = given s (always_value s.store list) >>= formed wraps s
  resolve line IsNever wraps s = formed wraps s Never
  resolve line (IsCancelled nack) wraps s = given s (cancelled_value s.store nack) >>= formed wraps s
  resolve line (IsJoined process) wraps s = formed wraps s (OnEnd process)
  resolve line (Chooses members) wraps s = resolve_all line members wraps s
  resolve line (Wraps event names list) wraps s =
      resolve line event (wraps ++ record { names = names; list = list } ∷ []) s >>= as_wrap (length wraps)
  resolve line (Guards body event) wraps s = run_block body s >>= set_line line >>= resolve line event wraps
  resolve line (Nacks name body event) wraps s =
      with_nack name s >>= run_block body >>= set_line line >>= resolve line event wraps >>= as_scope s.nacks

  pub resolve_all : ℕ → Events → List Wrapping → State → Outcome Formed
  resolve_all line NoMembers wraps s = Goes (record { tree = Nothing; wraps = wraps; state = s })
  resolve_all line (Members event others) wraps s =
      resolve line event wraps s >>= λ f. resolve_all line others f.wraps f.state >>= as_first f

-- PROCESSES

-- a thread before its first statement
abbrev pub start : ℕ → ℕ → List Chosen → State
start thread variables results =
    record { thread = thread; store = replicate variables None; nacks = 0; said = no_words; left = results; line = 0 }

abbrev pub finished : State → Outcome State
finished s = Finishes s

-- the whole body of a process with so many variables, run as this thread over these results
abbrev pub after : Block → ℕ → ℕ → List Chosen → Outcome State
after body variables thread results = run_block body (start thread variables results) >>= finished

-- WITHOUT LINES AND VARIABLES

abbrev pub unlined : State → past.State
unlined s = record { thread = s.thread; store = s.store; nacks = s.nacks; said = s.said; left = s.left }

abbrev pub forgotten : Outcome State → past.Outcome past.State
forgotten (Goes s) = past.Goes (unlined s)
forgotten (Offers tree at) = past.Offers tree at.said
forgotten (Finishes at) = past.Finishes at.said at.left
forgotten (Fails fault at) = past.Fails fault at.said at.left
forgotten Strays = past.Strays

-- AT WHICH LINE A PROCESS STANDS

-- the line of the sync whose event it offers, or of the statement that failed; 0 where it came to its end
abbrev pub line_in : Outcome State → ℕ
line_in (Offers tree at) = at.line
line_in (Fails fault at) = at.line
line_in outcome = 0

-- that of a process with this tree and so many variables, run as this thread, after these results
abbrev pub line_after : SeenBlock → ℕ → ℕ → List Chosen → ℕ
line_after tree variables thread results = line_in (after (block_of tree) variables thread results)

-- that of the machine's process after its results; 0 before it has begun, and where memory ran out
abbrev pub line_at : Thread → Phase → ℕ
line_at m Ready = 0
line_at m Broken = 0
line_at m phase = line_after m.body m.variables m.thread m.results

abbrev pub line_of : Thread → ℕ
line_of m = line_at m m.phase

-- ITS VARIABLES

-- the variables where it stops; none where it strays
abbrev pub variables_in : Outcome State → Store
variables_in (Offers tree at) = at.store
variables_in (Finishes at) = at.store
variables_in (Fails fault at) = at.store
variables_in outcome = []

-- those of a process with this tree and so many variables, run as this thread, after these results
abbrev pub variables_after : SeenBlock → ℕ → ℕ → List Chosen → Store
variables_after tree variables thread results = variables_in (after (block_of tree) variables thread results)

-- those of the machine's process after its results; none before it has begun, and where memory ran out
abbrev pub variables_at : Thread → Phase → Store
variables_at m Ready = []
variables_at m Broken = []
variables_at m phase = variables_after m.body m.variables m.thread m.results

abbrev pub variables_of : Thread → Store
variables_of m = variables_at m m.phase
