-- How a process stands after the results of its syncs: what it does, as in `After` of `thread`, with the whole thread kept
-- where it stops, and what was wrong in place of the bare fault.
use Rattle.std.specs.Prelude.{ℕ, zero, suc, ◌+◌, nat_le, if◌then◌else◌, List, [], ◌∷◌, ◌++◌, length, Option, Some, None, Result, Ok, Err, slice_get}
use Rattle.event.specs.Tree.{Tree, Single, Nothing, Or, Wrap, Scope, wraps_at}
use Rattle.script_tree.specs.Trees.{Expr, Event, Sends, Receives, IsReady, IsNever, IsCancelled, IsJoined, Chooses, Wraps, Guards, Nacks as NacksEvent, Events, NoMembers, Members, Stmt, Lets, Prints, Syncs, Branches, Loops, LoopsForever, Ends, Spawns, Block, Stops, Runs}
use Rattle.script_tree.specs.declared.tree.Name.{Name}
use Rattle.protocol_values.specs.declared.Atom.TheVariants.{Nack}
use Rattle.protocol_values.specs.declared.Message.{Message}
use Rattle.protocol_values.specs.declared.Base.{Base}
use Rattle.protocol_values.specs.declared.Base.TheVariants.{Send, Recv, Always, OnNack, OnEnd, Never}
use Rattle.thread.specs.Values.{Store}
use Rattle.thread.specs.After.{Chosen, State, with_printed, with_spawned, with_variable, Wrapping, Having, Formed, start}
use Rattle.pcml_why_sites.specs.Troubles.{expr_value, list_value, test_value, channel_value, nack_value, with_names, ◌>>=◌ as ◌>>>◌}
use Rattle.pcml_why_sites.specs.declared.trouble.Trouble.{Trouble}
use Rattle.pcml_why_sites.specs.declared.trouble.Trouble.TheVariants.{Nacks}

-- It goes on with a value; or it offers an event, with no result left; or it ends, or fails. It strays where a result
-- names an offer that is not there.
pub data Standing (A : Type 0) : Type 0 where
  Goes : (value : A) → Standing A
  Offers : (tree : Tree) (at : State) → Standing A
  Finishes : (at : State) → Standing A
  Fails : (trouble : Trouble) (at : State) → Standing A
  Strays : Standing A

infixl 10 ◌>>=◌
abbrev pub ◌>>=◌ : {A B : Type 0} → Standing A → (A → Standing B) → Standing B
Goes value >>= f = f value
Offers tree at >>= f = Offers tree at
Finishes at >>= f = Finishes at
Fails trouble at >>= f = Fails trouble at
Strays >>= f = Strays

-- a value, or the trouble in its place
abbrev pub given : {A : Type 0} → State → Result A Trouble → Standing A
given s (Ok value) = Goes value
given s (Err trouble) = Fails trouble s

-- COMMITS

abbrev pub received : Option (List ℕ) → Message → State → Standing State
received names message s = given s (with_names names message s.store) >>= λ store. Goes (record s { store = store })

abbrev pub wrapped_once : Option Wrapping → Message → State → Standing Having
wrapped_once None message s = Goes (record { message = message; state = s })
wrapped_once (Some w) message s =
    received w.names message s >>= λ t.
    given t (list_value t.store w.list) >>= λ changed. Goes (record { message = changed; state = t })

-- the wraps with these numbers, one after another
abbrev pub wrapped : List Wrapping → List ℕ → Message → State → Standing Having
wrapped wraps [] message s = Goes (record { message = message; state = s })
wrapped wraps (n ∷ ns) message s = wrapped_once (slice_get wraps n) message s >>= λ h. wrapped wraps ns h.message h.state

-- the wraps round the chosen base event change its message, and the names are set to what comes out
abbrev pub committed : Option (List ℕ) → Formed → Option (List ℕ) → Message → State → Standing State
committed names f None message s = Strays
committed names f (Some numbers) message s =
    wrapped f.wraps numbers message s >>= λ h. received names h.message h.state

-- a sync takes the next result; where none is left, it offers its event
abbrev pub synced_with : Option (List ℕ) → Formed → List Chosen → Standing State
synced_with names f [] = Offers f.tree f.state
synced_with names f (c ∷ left) = committed names f (wraps_at f.tree c.0) c.1 (record f.state { left = left })

abbrev pub synced : Option (List ℕ) → Formed → Standing State
synced names f = synced_with names f f.state.left

-- LOOPS

abbrev pub times : ℕ → (State → Standing State) → State → Standing State
times zero turn s = Goes s
times (suc n) turn s = turn s >>= times n turn

-- without end: each turn takes a result, so there are no more turns than results and one
abbrev pub endless : (State → Standing State) → State → Standing State
endless turn s = times (suc (length s.left)) turn s

-- BASE EVENTS AND NACKS

abbrev pub send_value : Store → Name → List Expr → Result Base Trouble
send_value store channel list = channel_value store channel >>> λ c. list_value store list >>> λ m. Ok (Send c m)

abbrev pub recv_value : Store → Name → Result Base Trouble
recv_value store channel = channel_value store channel >>> λ c. Ok (Recv c)

abbrev pub always_value : Store → List Expr → Result Base Trouble
always_value store list = list_value store list >>> λ m. Ok (Always m)

abbrev pub cancelled_value : Store → Name → Result Base Trouble
cancelled_value store name = nack_value store name >>> λ n. Ok (OnNack n)

abbrev pub formed : List Wrapping → State → Base → Standing Formed
formed wraps s base = Goes (record { tree = Single base; wraps = wraps; state = s })

-- the thread's next nack, which the name is set to; there are 64
abbrev pub with_nack : ℕ → State → Standing State
with_nack name s =
    if nat_le 64 s.nacks
    then Fails Nacks s
    else Goes (with_variable name (Nack (record { thread = s.thread; k = s.nacks })) (record s { nacks = s.nacks + 1 }))

abbrev pub as_wrap : ℕ → Formed → Standing Formed
as_wrap number f = Goes (record f { tree = Wrap number f.tree })

abbrev pub as_scope : ℕ → Formed → Standing Formed
as_scope nack f = Goes (record f { tree = Scope nack f.tree })

abbrev pub as_first : Formed → Formed → Standing Formed
as_first f others = Goes (record others { tree = Or f.tree others.tree })

-- STATEMENTS AND EVENTS

abbrev mutual
  pub run_block : Block → State → Standing State
  run_block Stops s = Goes s
  run_block (Runs stmt rest) s = run_stmt stmt s >>= run_block rest

  pub run_stmt : Stmt → State → Standing State
  run_stmt (Lets name value) s =
      given s (expr_value s.store value) >>= λ atom. Goes (with_variable name atom s)
  run_stmt (Prints value) s =
      given s (expr_value s.store value) >>= λ atom. Goes (record s { said = with_printed atom s.said })
  run_stmt (Syncs names event) s = resolve event [] s >>= synced names
  run_stmt (Branches test first second) s =
      given s (test_value s.store test) >>= λ holds. (if holds then run_block first s else run_block second s)
  run_stmt (Loops number names event rest) s =
      times number (λ t. resolve event [] t >>= synced names >>= run_block rest) s
  run_stmt (LoopsForever names event rest) s = endless (λ t. resolve event [] t >>= synced names >>= run_block rest) s
  run_stmt Ends s = Finishes s
  run_stmt (Spawns process) s = Goes (record s { said = with_spawned process s.said })

  -- the event, with the wraps of its sync that were numbered before
  pub resolve : Event → List Wrapping → State → Standing Formed
  resolve (Sends channel list) wraps s = given s (send_value s.store channel list) >>= formed wraps s
  resolve (Receives channel) wraps s = given s (recv_value s.store channel) >>= formed wraps s
  resolve (IsReady list) wraps s = given s (always_value s.store list) >>= formed wraps s
  resolve IsNever wraps s = formed wraps s Never
  resolve (IsCancelled nack) wraps s = given s (cancelled_value s.store nack) >>= formed wraps s
  resolve (IsJoined process) wraps s = formed wraps s (OnEnd process)
  resolve (Chooses members) wraps s = resolve_all members wraps s
  resolve (Wraps event names list) wraps s =
      resolve event (wraps ++ record { names = names; list = list } ∷ []) s >>= as_wrap (length wraps)
  resolve (Guards body event) wraps s = run_block body s >>= resolve event wraps
  resolve (NacksEvent name body event) wraps s =
      with_nack name s >>= run_block body >>= resolve event wraps >>= as_scope s.nacks

  pub resolve_all : Events → List Wrapping → State → Standing Formed
  resolve_all NoMembers wraps s = Goes (record { tree = Nothing; wraps = wraps; state = s })
  resolve_all (Members event others) wraps s =
      resolve event wraps s >>= λ f. resolve_all others f.wraps f.state >>= as_first f

-- PROCESSES

abbrev pub finished : State → Standing State
finished s = Finishes s

-- the whole body of a process with so many variables, run as this thread over these results
abbrev pub standing : Block → ℕ → ℕ → List Chosen → Standing State
standing body variables thread results = run_block body (start thread variables results) >>= finished
