-- A walk over the tree of a process, as the proofs have it: what it does, without what it told and without the trees of
-- its events.
use Rattle.std.specs.Prelude.{ℕ, zero, suc, ◌+◌, nat_le, if◌then◌else◌, List, [], ◌∷◌, length, replicate, Option, None, Result, Ok, Err, ⊤}
use Rattle.script_tree.specs.Trees.{Expr, Event, Sends, Receives, IsReady, IsNever, IsCancelled, IsJoined, Chooses, Wraps, Guards, Nacks as NacksEvent, Events, NoMembers, Members, Stmt, Lets, Prints, Syncs, Branches, Loops, LoopsForever, Ends, Spawns, Block, Stops, Runs, LoopBody}
use Rattle.protocol_values.specs.declared.Atom.{Atom}
use Rattle.protocol_values.specs.declared.Atom.TheVariants.{Nack}
use Rattle.protocol_values.specs.declared.Message.{Message}
use Rattle.thread.specs.Values.{Store, with_atom}
use Rattle.thread.specs.After.{Chosen, State}
use Rattle.pcml_why_sites.specs.Standing.{send_value, recv_value, always_value, cancelled_value}
use Rattle.pcml_why_sites.specs.Troubles.{expr_value, list_value, test_value, with_names}
use Rattle.pcml_why_sites.specs.declared.trouble.Trouble.{Trouble}
use Rattle.pcml_why_sites.specs.declared.trouble.Trouble.TheVariants.{Nacks}
use Rattle.pcml_why_sites.specs.declared.walk.Passage.{Passage}
use Rattle.pcml_why_sites.specs.declared.walk.Passage.TheVariants.{Through, Past}
use Rattle.pcml_why_sites.specs.declared.walk.Stop.{Stop}
use Rattle.pcml_why_sites.specs.declared.walk.Stop.TheVariants.{Offers, Finishes, Fails, Strays}
use Rattle.pcml_why_sites.specs.declared.walk.Walk.{Walk}

-- a thread, without what it told
pub record View : Type 0 where
  pub thread : ℕ
  pub store : Store
  pub nacks : ℕ
  pub left : List Chosen

abbrev pub view_of : State → View
view_of s = record { thread = s.thread; store = s.store; nacks = s.nacks; left = s.left }

abbrev pub view_in : Walk → View
view_in w = record { thread = w.thread; store = w.variables.items; nacks = w.nacks; left = w.left.now }

-- it goes on with a value, or it halts
pub data Walked (A : Type 0) : Type 0 where
  On : (value : A) (view : View) → Walked A
  Halts : (stop : Stop) (view : View) → Walked A

abbrev pub came : {A : Type 0} → Result A Stop → Walk → Walked A
came (Ok value) w = On value (view_in w)
came (Err stop) w = Halts stop (view_in w)

infixl 10 ◌>>=◌
abbrev pub ◌>>=◌ : {A B : Type 0} → Walked A → (A → View → Walked B) → Walked B
On value v >>= f = f value v
Halts stop v >>= f = Halts stop v

abbrev pub given : {A : Type 0} → View → Result A Trouble → Walked A
given v (Ok value) = On value v
given v (Err trouble) = Halts (Fails trouble) v

abbrev pub with_set : ℕ → Atom → View → View
with_set name atom v = record v { store = with_atom name atom v.store }

-- MESSAGES

abbrev pub walk_names : Option (List ℕ) → Message → View → Walked ⊤
walk_names names message v = given v (with_names names message v.store) >>= λ store w. On tt (record w { store = store })

abbrev pub walk_wrap : Option (List ℕ) → List Expr → Message → View → Walked Passage
walk_wrap names list message v =
    walk_names names message v >>= λ done w. given w (list_value w.store list) >>= λ changed. On (Through changed)

-- from base event n, counted from the left, out through the wraps round it; or that lies so many behind the event

abbrev pub passed : ℕ → Message → View → Walked Passage
passed zero message = On (Through message)
passed (suc n) message = On (Past n)

abbrev pub wrapped_in : Option (List ℕ) → List Expr → Passage → View → Walked Passage
wrapped_in names list (Through message) = walk_wrap names list message
wrapped_in names list (Past left) = On (Past left)

abbrev pub or_else : (ℕ → View → Walked Passage) → Passage → View → Walked Passage
or_else others (Through message) = On (Through message)
or_else others (Past left) = others left

abbrev mutual
  pub pass : Event → ℕ → Message → View → Walked Passage
  pass (Sends channel list) n message v = passed n message v
  pass (Receives channel) n message v = passed n message v
  pass (IsReady list) n message v = passed n message v
  pass IsNever n message v = passed n message v
  pass (IsCancelled nack) n message v = passed n message v
  pass (IsJoined process) n message v = passed n message v
  pass (Chooses members) n message v = pass_all members n message v
  pass (Wraps event names list) n message v = pass event n message v >>= wrapped_in names list
  pass (Guards body event) n message v = pass event n message v
  pass (NacksEvent name body event) n message v = pass event n message v

  pub pass_all : Events → ℕ → Message → View → Walked Passage
  pass_all NoMembers n message v = On (Past n) v
  pass_all (Members event others) n message v = pass event n message v >>= or_else (λ left w. pass_all others left message w)

abbrev pub committed : Option (List ℕ) → Passage → View → Walked ⊤
committed names (Through message) = walk_names names message
committed names (Past left) = Halts Strays

abbrev pub taken : Option (List ℕ) → Event → List Chosen → View → Walked ⊤
taken names event [] v = Halts Offers v
taken names event (c ∷ left) v = pass event c.0 c.1 (record v { left = left }) >>= committed names

abbrev pub synced : Option (List ℕ) → Event → ⊤ → View → Walked ⊤
synced names event done v = taken names event v.left v

-- STATEMENTS AND EVENTS

abbrev pub times : ℕ → (View → Walked ⊤) → View → Walked ⊤
times zero turn v = On tt v
times (suc n) turn v = turn v >>= λ done. times n turn

abbrev pub walk_nack : ℕ → View → Walked ⊤
walk_nack name v =
    if nat_le 64 v.nacks
    then Halts (Fails Nacks) v
    else On tt (with_set name (Nack (record { thread = v.thread; k = v.nacks })) (record v { nacks = v.nacks + 1 }))

abbrev mutual
  pub walk_block : Block → View → Walked ⊤
  walk_block Stops v = On tt v
  walk_block (Runs stmt rest) v = walk_stmt stmt v >>= λ done. walk_block rest

  pub walk_stmt : Stmt → View → Walked ⊤
  walk_stmt (Lets name value) v = given v (expr_value v.store value) >>= λ atom w. On tt (with_set name atom w)
  walk_stmt (Prints value) v = given v (expr_value v.store value) >>= λ atom. On tt
  walk_stmt (Syncs names event) v = walk_event event v >>= synced names event
  walk_stmt (Branches test first second) v =
      given v (test_value v.store test) >>= λ holds w. (if holds then walk_block first w else walk_block second w)
  walk_stmt (Loops number names event rest) v =
      times number (λ w. walk_event event w >>= synced names event >>= λ done. walk_block rest) v
  walk_stmt (LoopsForever names event rest) v =
      times (suc (length v.left)) (λ w. walk_event event w >>= synced names event >>= λ done. walk_block rest) v
  walk_stmt Ends v = Halts Finishes v
  walk_stmt (Spawns process) v = On tt v

  pub walk_event : Event → View → Walked ⊤
  walk_event (Sends channel list) v = given v (send_value v.store channel list) >>= λ base. On tt
  walk_event (Receives channel) v = given v (recv_value v.store channel) >>= λ base. On tt
  walk_event (IsReady list) v = given v (always_value v.store list) >>= λ base. On tt
  walk_event IsNever v = On tt v
  walk_event (IsCancelled nack) v = given v (cancelled_value v.store nack) >>= λ base. On tt
  walk_event (IsJoined process) v = On tt v
  walk_event (Chooses members) v = walk_members members v
  walk_event (Wraps event names list) v = walk_event event v
  walk_event (Guards body event) v = walk_block body v >>= λ done. walk_event event
  walk_event (NacksEvent name body event) v = walk_nack name v >>= (λ done. walk_block body) >>= λ done. walk_event event

  pub walk_members : Events → View → Walked ⊤
  walk_members NoMembers v = On tt v
  walk_members (Members event others) v = walk_event event v >>= λ done. walk_members others

abbrev pub walk_sync : Option (List ℕ) → Event → View → Walked ⊤
walk_sync names event v = walk_event event v >>= synced names event

-- the turn of a loop
abbrev pub walk_turn : LoopBody → View → Walked ⊤
walk_turn turn v = walk_sync turn.names turn.event v >>= λ done. walk_block turn.rest

abbrev pub walk_start : ℕ → ℕ → List Chosen → View
walk_start thread variables results = record { thread = thread; store = replicate variables None; nacks = 0; left = results }
