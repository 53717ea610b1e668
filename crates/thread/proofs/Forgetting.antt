-- How a process stands, without lines and variables, is what it does.
use Rattle.std.proofs.Common.{◌≡◌, ℕ, zero, suc, ◌<◌, List, [], ◌∷◌, ◌++◌, Option, Some, None, Result, Ok, Err, Bool, true, false, length, slice_get, refl, ap, ◌∙◌, sym, subst, nat_le}
use Rattle.std.specs.Prelude.{⊤, if◌then◌else◌}
use Rattle.event.specs.Tree.{wraps_at}
use Rattle.script_tree.specs.Trees as plain
use Rattle.script_tree.specs.Lined.{Event, Sends, Receives, IsReady, IsNever, IsCancelled, IsJoined, Chooses, Wraps, Guards, Nacks, Events, NoMembers, Members, Stmt, Lets, Prints, Syncs, Branches, Loops, LoopsForever, Ends, Spawns, Block, Stops, Runs, LoopBody, plain_block, plain_event, plain_members, plain_stmt}
use Rattle.protocol_values.specs.declared.Base.{Base}
use Rattle.protocol_values.specs.declared.Message.{Message}
use Rattle.thread.specs.declared.Fault.{Fault}
use Rattle.thread.specs.Values.{expr_value, list_value, test_value, with_names}
use Rattle.thread.specs.After as past
use Rattle.thread.specs.After.{Chosen, Wrapping, send_value, recv_value, always_value, cancelled_value, ◌>>=◌ as ◌>>>◌}
use Rattle.thread.specs.Standing.{State, Outcome, Goes, Offers, Finishes, Fails, Strays, ◌>>=◌, given, set_line, at_line, received, Having, wrapped_once, wrapped, Formed, committed, synced_with, synced, times, formed, with_nack, as_wrap, as_scope, as_first, run_block, run_stmt, resolve, resolve_all, start, finished, after, unlined, forgotten}
use Rattle.thread.specs.Stacks.{turn_on}
use Rattle.thread.proofs.Binding as plainly
use Rattle.thread.proofs.Going.{IfGoes}
use Rattle.thread.proofs.Taking as taking

abbrev having_of : Having → past.Having
having_of h = record { message = h.message; state = unlined h.state }

abbrev pub formed_of : Formed → past.Formed
formed_of f = record { tree = f.tree; wraps = f.wraps; state = unlined f.state }

-- both go on with the same, or both stop in the same way
abbrev pub Told : {A B : Type 0} → (A → B) → Outcome A → past.Outcome B → Type 0
Told view (Goes a) (past.Goes b) = view a ≡ b
Told view (Offers tree at) (past.Offers other said) = (tree ≡ other) × (at.said ≡ said)
Told view (Finishes at) (past.Finishes said left) = (at.said ≡ said) × (at.left ≡ left)
Told view (Fails fault at) (past.Fails reason said left) = (fault ≡ reason) × (at.said ≡ said) × (at.left ≡ left)
Told view Strays past.Strays = ⊤
Told view one other = ⊥

bind_told : {A B C D : Type 0} (v : A → C) (w : B → D) (x : Outcome A) (y : past.Outcome C) (f : A → Outcome B) (g : C → past.Outcome D) → Told v x y → ((a : A) → Told w (f a) (g (v a))) → Told w (x >>= f) (y >>> g)
bind_told v w (Goes a) (past.Goes b) f g h next = subst (λ z. Told w (f a) (g z)) h (next a)
bind_told v w (Offers tree at) (past.Offers other said) f g h next = h
bind_told v w (Finishes at) (past.Finishes said left) f g h next = h
bind_told v w (Fails fault at) (past.Fails reason said left) f g h next = h
bind_told v w Strays past.Strays f g h next = tt
bind_told v w x y f g h next = absurd h

set_told : (line : ℕ) (x : Outcome State) (y : past.Outcome past.State) → Told unlined x y → Told unlined (x >>= set_line line) y
set_told line (Goes a) (past.Goes b) h = h
set_told line (Offers tree at) (past.Offers other said) h = h
set_told line (Finishes at) (past.Finishes said left) h = h
set_told line (Fails fault at) (past.Fails reason said left) h = h
set_told line Strays past.Strays h = tt
set_told line x y h = absurd h

given_told : {A B C : Type 0} (v : B → C) (s : State) (r : Result A Fault) (f : A → Outcome B) (g : A → past.Outcome C) → ((a : A) → Told v (f a) (g a)) → Told v (given s r >>= f) (past.given (unlined s) r >>> g)
given_told v s (Ok a) f g next = next a
given_told v s (Err fault) f g next = (refl, refl, refl)

if_told : (b : Bool) (x y : Outcome State) (v w : past.Outcome past.State) → Told unlined x v → Told unlined y w → Told unlined (if b then x else y) (if b then v else w)
if_told true x y v w first second = first
if_told false x y v w first second = second

-- COMMITS

received_told : (names : Option (List ℕ)) (m : Message) (s : State) → Told unlined (received names m s) (past.received names m (unlined s))
received_told names m s = given_told unlined s (with_names names m s.store) _ _ (λ store. refl)

wrapped_once_told : (w : Option Wrapping) (m : Message) (s : State) → Told having_of (wrapped_once w m s) (past.wrapped_once w m (unlined s))
wrapped_once_told None m s = refl
wrapped_once_told (Some w) m s =
    bind_told unlined having_of (received w.names m s) (past.received w.names m (unlined s)) _ _ (received_told w.names m s) (λ t.
    given_told having_of t (list_value t.store w.list) _ _ (λ changed. refl))

wrapped_told : (wraps : List Wrapping) (ns : List ℕ) (m : Message) (s : State) → Told having_of (wrapped wraps ns m s) (past.wrapped wraps ns m (unlined s))
wrapped_told wraps [] m s = refl
wrapped_told wraps (n ∷ ns) m s =
    bind_told having_of having_of (wrapped_once (slice_get wraps n) m s) (past.wrapped_once (slice_get wraps n) m (unlined s)) _ _ (wrapped_once_told (slice_get wraps n) m s) (λ h. wrapped_told wraps ns h.message h.state)

committed_told : (names : Option (List ℕ)) (f : Formed) (numbers : Option (List ℕ)) (m : Message) (s : State) → Told unlined (committed names f numbers m s) (past.committed names (formed_of f) numbers m (unlined s))
committed_told names f None m s = tt
committed_told names f (Some numbers) m s =
    bind_told having_of unlined (wrapped f.wraps numbers m s) (past.wrapped f.wraps numbers m (unlined s)) _ _ (wrapped_told f.wraps numbers m s) (λ h. received_told names h.message h.state)

pub synced_with_told : (names : Option (List ℕ)) (f : Formed) (left : List Chosen) → Told unlined (synced_with names f left) (past.synced_with names (formed_of f) left)
synced_with_told names f [] = (refl, refl)
synced_with_told names f (c ∷ left) = committed_told names f (wraps_at f.tree c.0) c.1 (record f.state { left = left })

-- LOOPS

times_told : (n : ℕ) (one : State → Outcome State) (other : past.State → past.Outcome past.State) → ((s : State) → Told unlined (one s) (other (unlined s))) → (s : State) → Told unlined (times n one s) (past.times n other (unlined s))
times_told zero one other same s = refl
times_told (suc n) one other same s = bind_told unlined unlined (one s) (other (unlined s)) (times n one) (past.times n other) (same s) (times_told n one other same)

-- a sync of what is resolved, and then the rest
pub turn_told : (names : Option (List ℕ)) (one : State → Outcome Formed) (other : past.State → past.Outcome past.Formed) (rest : State → Outcome State) (more : past.State → past.Outcome past.State) → ((s : State) → Told formed_of (one s) (other (unlined s))) → ((s : State) → Told unlined (rest s) (more (unlined s)))
    → (s : State) → Told unlined (one s >>= synced names >>= rest) (other (unlined s) >>> past.synced names >>> more)
turn_told names one other rest more same behind s =
    bind_told unlined unlined (one s >>= synced names) (other (unlined s) >>> past.synced names) rest more
    (bind_told formed_of unlined (one s) (other (unlined s)) (synced names) (past.synced names) (same s) (λ f. synced_with_told names f f.state.left)) behind

-- STATEMENTS AND EVENTS

base_told : (wraps : List Wrapping) (s : State) (r : Result Base Fault) → Told formed_of (given s r >>= formed wraps s) (past.given (unlined s) r >>> past.formed wraps (unlined s))
base_told wraps s r = given_told formed_of s r (formed wraps s) (past.formed wraps (unlined s)) (λ base. refl)

pub with_nack_told : (name : ℕ) (s : State) → Told unlined (with_nack name s) (past.with_nack name (unlined s))
with_nack_told name s = if_told (nat_le 64 s.nacks) _ _ _ _ (refl, refl, refl) refl

mutual
  pub block_told : (b : Block) (s : State) → Told unlined (run_block b s) (past.run_block (plain_block b) (unlined s))
  block_told Stops s = refl
  block_told (Runs stmt line rest) s =
      bind_told unlined unlined (run_stmt line stmt (at_line line s)) (past.run_stmt (plain_stmt stmt) (unlined s)) (run_block rest) (past.run_block (plain_block rest)) (stmt_told line stmt (at_line line s)) (block_told rest)

  stmt_told : (line : ℕ) (stmt : Stmt) (s : State) → Told unlined (run_stmt line stmt s) (past.run_stmt (plain_stmt stmt) (unlined s))
  stmt_told line (Lets name value) s = given_told unlined s (expr_value s.store value) _ _ (λ atom. refl)
  stmt_told line (Prints value) s = given_told unlined s (expr_value s.store value) _ _ (λ atom. refl)
  stmt_told line (Syncs names event) s =
      bind_told formed_of unlined (resolve line event [] s) (past.resolve (plain_event event) [] (unlined s)) (synced names) (past.synced names) (event_told line event [] s) (λ f. synced_with_told names f f.state.left)
  stmt_told line (Branches test first second) s =
      given_told unlined s (test_value s.store test) _ _ (λ holds. if_told holds (run_block first s) (run_block second s) (past.run_block (plain_block first) (unlined s)) (past.run_block (plain_block second) (unlined s)) (block_told first s) (block_told second s))
  stmt_told line (Loops number at names event rest) s =
      times_told number (λ t. resolve at event [] (at_line at t) >>= synced names >>= run_block rest) (λ t. past.resolve (plain_event event) [] t >>> past.synced names >>> past.run_block (plain_block rest)) (turn_told names (λ t. resolve at event [] (at_line at t)) (past.resolve (plain_event event) []) (run_block rest) (past.run_block (plain_block rest)) (λ t. event_told at event [] (at_line at t)) (block_told rest)) s
  stmt_told line (LoopsForever at names event rest) s =
      times_told (suc (length s.left)) (λ t. resolve at event [] (at_line at t) >>= synced names >>= run_block rest) (λ t. past.resolve (plain_event event) [] t >>> past.synced names >>> past.run_block (plain_block rest)) (turn_told names (λ t. resolve at event [] (at_line at t)) (past.resolve (plain_event event) []) (run_block rest) (past.run_block (plain_block rest)) (λ t. event_told at event [] (at_line at t)) (block_told rest)) s
  stmt_told line Ends s = (refl, refl)
  stmt_told line (Spawns process) s = refl

  pub event_told : (line : ℕ) (e : Event) (wraps : List Wrapping) (s : State) → Told formed_of (resolve line e wraps s) (past.resolve (plain_event e) wraps (unlined s))
  event_told line (Sends channel list) wraps s = base_told wraps s (send_value s.store channel list)
  event_told line (Receives channel) wraps s = base_told wraps s (recv_value s.store channel)
  event_told line (IsReady list) wraps s = base_told wraps s (always_value s.store list)
  event_told line IsNever wraps s = refl
  event_told line (IsCancelled nack) wraps s = base_told wraps s (cancelled_value s.store nack)
  event_told line (IsJoined process) wraps s = refl
  event_told line (Chooses members) wraps s = members_told line members wraps s
  event_told line (Wraps event names list) wraps s =
      let ws : List Wrapping = wraps ++ record { names = names; list = list } ∷ [] in
      bind_told formed_of formed_of (resolve line event ws s) (past.resolve (plain_event event) ws (unlined s)) (as_wrap (length wraps)) (past.as_wrap (length wraps)) (event_told line event ws s) (λ f. refl)
  event_told line (Guards body event) wraps s =
      bind_told unlined formed_of (run_block body s >>= set_line line) (past.run_block (plain_block body) (unlined s)) (resolve line event wraps) (past.resolve (plain_event event) wraps)
      (set_told line (run_block body s) (past.run_block (plain_block body) (unlined s)) (block_told body s)) (event_told line event wraps)
  event_told line (Nacks name body event) wraps s =
      let made = with_nack name s >>= run_block body in
      let other = past.with_nack name (unlined s) >>> past.run_block (plain_block body) in
      bind_told formed_of formed_of (made >>= set_line line >>= resolve line event wraps) (other >>> past.resolve (plain_event event) wraps) (as_scope s.nacks) (past.as_scope s.nacks)
      (bind_told unlined formed_of (made >>= set_line line) other (resolve line event wraps) (past.resolve (plain_event event) wraps)
      (set_told line made other (bind_told unlined unlined (with_nack name s) (past.with_nack name (unlined s)) (run_block body) (past.run_block (plain_block body)) (with_nack_told name s) (block_told body))) (event_told line event wraps))
      (λ f. refl)

  members_told : (line : ℕ) (es : Events) (wraps : List Wrapping) (s : State) → Told formed_of (resolve_all line es wraps s) (past.resolve_all (plain_members es) wraps (unlined s))
  members_told line NoMembers wraps s = refl
  members_told line (Members event others) wraps s =
      bind_told formed_of formed_of (resolve line event wraps s) (past.resolve (plain_event event) wraps (unlined s)) _ _ (event_told line event wraps s)
      (λ f. bind_told formed_of formed_of (resolve_all line others f.wraps f.state) (past.resolve_all (plain_members others) f.wraps (unlined f.state)) (as_first f) (past.as_first (formed_of f)) (members_told line others f.wraps f.state) (λ g. refl))

-- WHOLE BODIES

told_forgets : (x : Outcome State) (y : past.Outcome past.State) → Told unlined x y → y ≡ forgotten x
told_forgets (Goes a) (past.Goes b) h = ap past.Goes (sym h)
told_forgets (Offers tree at) (past.Offers other said) h = sym (ap (λ t. past.Offers t at.said) h.0 ∙ ap (past.Offers other) h.1)
told_forgets (Finishes at) (past.Finishes said left) h = sym (ap (λ w. past.Finishes w at.left) h.0 ∙ ap (past.Finishes said) h.1)
told_forgets (Fails fault at) (past.Fails reason said left) h = sym (ap (λ f. past.Fails f at.said at.left) h.0 ∙ ap (λ w. past.Fails reason w at.left) h.1 ∙ ap (past.Fails reason said) h.2)
told_forgets Strays past.Strays h = refl
told_forgets x y h = absurd h

-- what is left is what the process does
pub forgetting : (body : Block) (variables thread : ℕ) (results : List Chosen) → past.after (plain_block body) variables thread results ≡ forgotten (after body variables thread results)
forgetting body variables thread results =
    let s = start thread variables results in
    told_forgets (after body variables thread results) _ (bind_told unlined unlined (run_block body s) (past.run_block (plain_block body) (unlined s)) finished past.finished (block_told body s) (λ t. (refl, refl)))

-- TURNS

takes_so : (n : ℕ) (x : Outcome State) (y : past.Outcome past.State) → Told unlined x y → plainly.IfGoes y (λ t. length t.left < n) → IfGoes x (λ t. length t.left < n)
takes_so n (Goes a) (past.Goes b) h less = subst (λ (t : past.State). length t.left < n) (sym h) less
takes_so n (Offers tree at) y h less = tt
takes_so n (Finishes at) y h less = tt
takes_so n (Fails fault at) y h less = tt
takes_so n Strays y h less = tt
takes_so n x y h less = absurd h

pub turn_takes : (turn : LoopBody) (s : State) → IfGoes (turn_on turn s) (λ t. length t.left < length s.left)
turn_takes turn s =
    let one : plain.LoopBody = record { names = turn.names; event = plain_event turn.event; rest = plain_block turn.rest } in
    takes_so (length s.left) (turn_on turn s) (taking.turn_on one (unlined s))
    (turn_told turn.names (λ t. resolve turn.line turn.event [] (at_line turn.line t)) (past.resolve (plain_event turn.event) []) (run_block turn.rest) (past.run_block (plain_block turn.rest)) (λ t. event_told turn.line turn.event [] (at_line turn.line t)) (block_told turn.rest) s)
    (taking.turn_takes one (unlined s))
