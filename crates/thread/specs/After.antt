-- What a process does after the results of its syncs: which event it offers next, or how it ends, what it printed
-- and which processes it spawned.
use Rattle.std.specs.Prelude.{ℕ, zero, suc, ◌+◌, ◌==◌, nat_le, if◌then◌else◌, List, [], ◌∷◌, ◌++◌, length, replicate, Option, Some, None, Result, Ok, Err, slice_get}
use Rattle.std.specs.List.{list_any}
use Rattle.event.specs.Tree.{Tree, Single, Nothing, Or, Wrap, Scope, wraps_at}
use Rattle.script_tree.specs.Trees.{Expr, Event, Sends, Receives, IsReady, IsNever, IsCancelled, IsJoined, Chooses, Wraps, Guards, Nacks, Events, NoMembers, Members, Stmt, Lets, Prints, Syncs, Branches, Loops, LoopsForever, Ends, Spawns, Block, Stops, Runs}
use Rattle.script_tree.specs.declared.tree.Name.{Name}
use Rattle.protocol_values.specs.declared.NackName.{NackName}
use Rattle.protocol_values.specs.declared.Atom.{Atom}
use Rattle.protocol_values.specs.declared.Atom.TheVariants.{Num, Chan, Nack}
use Rattle.protocol_values.specs.declared.Message.{Message}
use Rattle.protocol_values.specs.declared.Base.{Base}
use Rattle.protocol_values.specs.declared.Base.TheVariants.{Send, Recv, Always, OnNack, OnEnd, Never}
use Rattle.thread.specs.declared.Fault.{Fault}
use Rattle.thread.specs.declared.Fault.TheVariants.{Kind, Range}
use Rattle.thread.specs.Values.{Store, name_value, expr_value, list_value, test_value, with_atom, with_names, ◌>>=◌ as ◌>>>◌}

-- the result of a sync: the number of the offer that was chosen, and its message
abbrev pub Chosen : Type 0
Chosen = ℕ × Message

-- what a thread has told so far: what it printed, and the processes that it spawned, each once, in order
pub record Said : Type 0 where
  pub printed : List Atom
  pub spawned : List ℕ

abbrev pub no_words : Said
no_words = record { printed = []; spawned = [] }

abbrev pub with_printed : Atom → Said → Said
with_printed atom s = record s { printed = s.printed ++ atom ∷ [] }

-- reached again, a `spawn` does nothing
abbrev pub with_spawned : ℕ → Said → Said
with_spawned process s =
    if list_any (λ p. p == process) s.spawned then s else record s { spawned = s.spawned ++ process ∷ [] }

-- a thread on its way: its variables, how many nacks it made, what it told, and the results that are left to it
pub record State : Type 0 where
  pub thread : ℕ
  pub store : Store
  pub nacks : ℕ
  pub said : Said
  pub left : List Chosen

-- It goes on with a value; or it offers an event, with no result left; or it ends, or fails, with these results left.
-- It strays where a result names an offer that is not there.
pub data Outcome (A : Type 0) : Type 0 where
  Goes : (value : A) → Outcome A
  Offers : (tree : Tree) (said : Said) → Outcome A
  Finishes : (said : Said) (left : List Chosen) → Outcome A
  Fails : (fault : Fault) (said : Said) (left : List Chosen) → Outcome A
  Strays : Outcome A

infixl 10 ◌>>=◌
abbrev pub ◌>>=◌ : {A B : Type 0} → Outcome A → (A → Outcome B) → Outcome B
Goes value >>= f = f value
Offers tree printed >>= f = Offers tree printed
Finishes printed left >>= f = Finishes printed left
Fails fault printed left >>= f = Fails fault printed left
Strays >>= f = Strays

-- a value, or the fault in its place
abbrev pub given : {A : Type 0} → State → Result A Fault → Outcome A
given s (Ok value) = Goes value
given s (Err fault) = Fails fault s.said s.left

-- COMMITS

abbrev pub with_variable : ℕ → Atom → State → State
with_variable name atom s = record s { store = with_atom name atom s.store }

abbrev pub received : Option (List ℕ) → Message → State → Outcome State
received names message s = given s (with_names names message s.store) >>= λ store. Goes (record s { store = store })

-- a wrap: the names that it sets, and the list that it gives
pub record Wrapping : Type 0 where
  pub names : Option (List ℕ)
  pub list : List Expr

-- a message, and the thread that has it
pub record Having : Type 0 where
  pub message : Message
  pub state : State

abbrev pub wrapped_once : Option Wrapping → Message → State → Outcome Having
wrapped_once None message s = Goes (record { message = message; state = s })
wrapped_once (Some w) message s = do
  t ← received w.names message s
  changed ← given t (list_value t.store w.list)
  Goes (record { message = changed; state = t })

-- the wraps with these numbers, one after another
abbrev pub wrapped : List Wrapping → List ℕ → Message → State → Outcome Having
wrapped wraps [] message s = Goes (record { message = message; state = s })
wrapped wraps (n ∷ ns) message s = wrapped_once (slice_get wraps n) message s >>= λ h. wrapped wraps ns h.message h.state

-- an event whose guards have run, its wraps by their numbers, and the thread that formed it
pub record Formed : Type 0 where
  pub tree : Tree
  pub wraps : List Wrapping
  pub state : State

-- the wraps round the chosen base event change its message, and the names are set to what comes out
abbrev pub committed : Option (List ℕ) → Formed → Option (List ℕ) → Message → State → Outcome State
committed names f None message s = Strays
committed names f (Some numbers) message s =
    wrapped f.wraps numbers message s >>= λ h. received names h.message h.state

-- a sync takes the next result; where none is left, it offers its event
abbrev pub synced_with : Option (List ℕ) → Formed → List Chosen → Outcome State
synced_with names f [] = Offers f.tree f.state.said
synced_with names f (c ∷ left) = committed names f (wraps_at f.tree c.0) c.1 (record f.state { left = left })

abbrev pub synced : Option (List ℕ) → Formed → Outcome State
synced names f = synced_with names f f.state.left

-- LOOPS

abbrev pub times : ℕ → (State → Outcome State) → State → Outcome State
times zero turn s = Goes s
times (suc n) turn s = turn s >>= times n turn

-- without end: each turn takes a result, so there are no more turns than results and one
abbrev pub endless : (State → Outcome State) → State → Outcome State
endless turn s = times (suc (length s.left)) turn s

-- BASE EVENTS AND NACKS

abbrev pub channel_in : Atom → Result ℕ Fault
channel_in (Num n) = Err Kind
channel_in (Chan c) = Ok c
channel_in (Nack n) = Err Kind

abbrev pub nack_in : Atom → Result NackName Fault
nack_in (Num n) = Err Kind
nack_in (Chan c) = Err Kind
nack_in (Nack n) = Ok n

abbrev pub channel_value : Store → Name → Result ℕ Fault
channel_value store name = name_value store name >>> channel_in

abbrev pub nack_value : Store → Name → Result NackName Fault
nack_value store name = name_value store name >>> nack_in

abbrev pub send_value : Store → Name → List Expr → Result Base Fault
send_value store channel list = channel_value store channel >>> λ c. list_value store list >>> λ m. Ok (Send c m)

abbrev pub recv_value : Store → Name → Result Base Fault
recv_value store channel = channel_value store channel >>> λ c. Ok (Recv c)

abbrev pub always_value : Store → List Expr → Result Base Fault
always_value store list = list_value store list >>> λ m. Ok (Always m)

abbrev pub cancelled_value : Store → Name → Result Base Fault
cancelled_value store name = nack_value store name >>> λ n. Ok (OnNack n)

abbrev pub formed : List Wrapping → State → Base → Outcome Formed
formed wraps s base = Goes (record { tree = Single base; wraps = wraps; state = s })

-- the thread's next nack, which the name is set to; there are 64
abbrev pub with_nack : ℕ → State → Outcome State
with_nack name s =
    if nat_le 64 s.nacks
    then Fails Range s.said s.left
    else Goes (with_variable name (Nack (record { thread = s.thread; k = s.nacks })) (record s { nacks = s.nacks + 1 }))

abbrev pub as_wrap : ℕ → Formed → Outcome Formed
as_wrap number f = Goes (record f { tree = Wrap number f.tree })

abbrev pub as_scope : ℕ → Formed → Outcome Formed
as_scope nack f = Goes (record f { tree = Scope nack f.tree })

abbrev pub as_first : Formed → Formed → Outcome Formed
as_first f others = Goes (record others { tree = Or f.tree others.tree })

-- STATEMENTS AND EVENTS

abbrev mutual
  pub run_block : Block → State → Outcome State
  run_block Stops s = Goes s
  run_block (Runs stmt rest) s = run_stmt stmt s >>= run_block rest

  pub run_stmt : Stmt → State → Outcome State
  run_stmt (Lets name value) s =
      given s (expr_value s.store value) >>= λ atom. Goes (with_variable name atom s)
  run_stmt (Prints value) s =
      given s (expr_value s.store value) >>= λ atom. Goes (record s { said = with_printed atom s.said })
  run_stmt (Syncs names event) s = resolve event [] s >>= synced names
  run_stmt (Branches test first second) s =
      given s (test_value s.store test) >>= λ holds. (if holds then run_block first s else run_block second s)
  run_stmt (Loops number names event rest) s =
      times number (λ t. resolve event [] t >>= synced names >>= run_block rest) s
  run_stmt (LoopsForever names event rest) s = endless (λ t. resolve event [] t >>= synced names >>= run_block rest) s
  run_stmt Ends s = Finishes s.said s.left
  run_stmt (Spawns process) s = Goes (record s { said = with_spawned process s.said })

  -- the event, with the wraps of its sync that were numbered before
  pub resolve : Event → List Wrapping → State → Outcome Formed
  resolve (Sends channel list) wraps s = given s (send_value s.store channel list) >>= formed wraps s
  resolve (Receives channel) wraps s = given s (recv_value s.store channel) >>= formed wraps s
  resolve (IsReady list) wraps s = given s (always_value s.store list) >>= formed wraps s
  resolve IsNever wraps s = formed wraps s Never
  resolve (IsCancelled nack) wraps s = given s (cancelled_value s.store nack) >>= formed wraps s
  resolve (IsJoined process) wraps s = formed wraps s (OnEnd process)
  resolve (Chooses members) wraps s = resolve_all members wraps s
  resolve (Wraps event names list) wraps s =
      resolve event (wraps ++ record { names = names; list = list } ∷ []) s >>= as_wrap (length wraps)
  resolve (Guards body event) wraps s = run_block body s >>= resolve event wraps
  resolve (Nacks name body event) wraps s =
      with_nack name s >>= run_block body >>= resolve event wraps >>= as_scope s.nacks

  pub resolve_all : Events → List Wrapping → State → Outcome Formed
  resolve_all NoMembers wraps s = Goes (record { tree = Nothing; wraps = wraps; state = s })
  resolve_all (Members event others) wraps s =
      resolve event wraps s >>= λ f. resolve_all others f.wraps f.state >>= as_first f

-- PROCESSES

-- a thread before its first statement
abbrev pub start : ℕ → ℕ → List Chosen → State
start thread variables results =
    record { thread = thread; store = replicate variables None; nacks = 0; said = no_words; left = results }

abbrev pub finished : State → Outcome State
finished s = Finishes s.said s.left

-- the whole body of a process with so many variables, run as this thread over these results
abbrev pub after : Block → ℕ → ℕ → List Chosen → Outcome State
after body variables thread results = run_block body (start thread variables results) >>= finished
