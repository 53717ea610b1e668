-- How a process stands is how it stands over its tree with lines, without the line; and what its trouble says is so.
use Rattle.std.proofs.Common.{◌≡◌, ℕ, zero, suc, ◌≤◌, List, [], ◌∷◌, ◌++◌, Option, Some, None, Result, Ok, Err, Bool, true, false, length, slice_get, refl, sym, subst, arith, nat_le}
use Rattle.std.proofs.lemmas.Bool.Decides.{nat_tests}
use Rattle.std.specs.Prelude.{⊤, if◌then◌else◌}
use Rattle.event.specs.Tree.{wraps_at}
use Rattle.script_tree.specs.Lined.{Event, Sends, Receives, IsReady, IsNever, IsCancelled, IsJoined, Chooses, Wraps, Guards, Nacks as NacksEvent, Events, NoMembers, Members, Stmt, Lets, Prints, Syncs, Branches, Loops, LoopsForever, Ends, Spawns, Block, Stops, Runs, plain_block, plain_event, plain_members, plain_stmt}
use Rattle.protocol_values.specs.declared.Base.{Base}
use Rattle.protocol_values.specs.declared.Message.{Message}
use Rattle.thread.specs.After as after
use Rattle.thread.specs.After.{Chosen, Wrapping}
use Rattle.thread.specs.Standing as lined
use Rattle.thread.specs.Standing.{Outcome, State, Having, Formed, at_line, set_line, unlined, ◌>>=◌ as ◌>>>◌}
use Rattle.thread.specs.Values as values
use Rattle.thread.specs.declared.Fault.{Fault}
use Rattle.pcml_why_sites.specs.Standing.{Standing, Goes, Offers, Finishes, Fails, Strays, ◌>>=◌, given, received, wrapped_once, wrapped, committed, synced_with, synced, times, send_value, recv_value, always_value, cancelled_value, formed, with_nack, as_wrap, as_scope, as_first, run_block, run_stmt, resolve, resolve_all, finished, standing}
use Rattle.pcml_why_sites.specs.Troubles.{IsSo, fault_of, expr_value, list_value, test_value, with_names}
use Rattle.pcml_why_sites.specs.declared.trouble.Trouble.{Trouble}
use Rattle.pcml_why_sites.proofs.Valuing.{ValueTold, expr_told, list_told, test_told, with_names_told, send_told, recv_told, always_told, cancelled_told}

abbrev having_of : Having → after.Having
having_of h = record { message = h.message; state = unlined h.state }

abbrev formed_of : Formed → after.Formed
formed_of f = record { tree = f.tree; wraps = f.wraps; state = unlined f.state }

-- both go on with the same, or both stop in the same way; a trouble is of the fault, and so
abbrev pub Told : {A B : Type 0} → (A → B) → Standing B → Outcome A → Type 0
Told view (Goes b) (lined.Goes a) = b ≡ view a
Told view (Offers tree s) (lined.Offers other at) = (tree ≡ other) × (s ≡ unlined at)
Told view (Finishes s) (lined.Finishes at) = s ≡ unlined at
Told view (Fails trouble s) (lined.Fails fault at) = (fault_of trouble ≡ fault) × IsSo s.store s.nacks trouble × (s ≡ unlined at)
Told view Strays lined.Strays = ⊤
Told view one other = ⊥

bind_told : {A B C D : Type 0} (v : A → C) (w : B → D) (x : Standing C) (y : Outcome A) (f : C → Standing D) (g : A → Outcome B) → Told v x y → ((a : A) → Told w (f (v a)) (g a)) → Told w (x >>= f) (y >>> g)
bind_told v w (Goes b) (lined.Goes a) f g h next = subst (λ z. Told w (f z) (g a)) (sym h) (next a)
bind_told v w (Offers tree s) (lined.Offers other at) f g h next = h
bind_told v w (Finishes s) (lined.Finishes at) f g h next = h
bind_told v w (Fails trouble s) (lined.Fails fault at) f g h next = h
bind_told v w Strays lined.Strays f g h next = tt
bind_told v w x y f g h next = absurd h

set_told : (line : ℕ) (x : Standing after.State) (y : Outcome State) → Told unlined x y → Told unlined x (y >>> set_line line)
set_told line (Goes b) (lined.Goes a) h = h
set_told line (Offers tree s) (lined.Offers other at) h = h
set_told line (Finishes s) (lined.Finishes at) h = h
set_told line (Fails trouble s) (lined.Fails fault at) h = h
set_told line Strays lined.Strays h = tt
set_told line x y h = absurd h

given_told : {A B C : Type 0} (v : B → C) (s : State) (r : Result A Trouble) (q : Result A Fault) (f : A → Standing C) (g : A → Outcome B) → ValueTold s.store s.nacks r q → ((a : A) → Told v (f a) (g a)) → Told v (given (unlined s) r >>= f) (lined.given s q >>> g)
given_told v s (Ok a) (Ok b) f g h next = subst (λ z. Told v (f a) (g z)) h (next a)
given_told v s (Err trouble) (Err fault) f g h next = (h.0, h.1, refl)
given_told v s r q f g h next = absurd h

if_told : (b : Bool) (x y : Standing after.State) (v w : Outcome State) → (b ≡ true → Told unlined x v) → (b ≡ false → Told unlined y w) → Told unlined (if b then x else y) (if b then v else w)
if_told true x y v w first second = first refl
if_told false x y v w first second = second refl

-- COMMITS

received_told : (names : Option (List ℕ)) (m : Message) (s : State) → Told unlined (received names m (unlined s)) (lined.received names m s)
received_told names m s =
    given_told unlined s (with_names names m s.store) (values.with_names names m s.store) _ _ (with_names_told s.store s.nacks names m) (λ store. refl)

wrapped_once_told : (w : Option Wrapping) (m : Message) (s : State) → Told having_of (wrapped_once w m (unlined s)) (lined.wrapped_once w m s)
wrapped_once_told None m s = refl
wrapped_once_told (Some w) m s =
    bind_told unlined having_of (received w.names m (unlined s)) (lined.received w.names m s) _ _ (received_told w.names m s) (λ t.
    given_told having_of t (list_value t.store w.list) (values.list_value t.store w.list) _ _ (list_told t.store t.nacks w.list) (λ changed. refl))

wrapped_told : (wraps : List Wrapping) (ns : List ℕ) (m : Message) (s : State) → Told having_of (wrapped wraps ns m (unlined s)) (lined.wrapped wraps ns m s)
wrapped_told wraps [] m s = refl
wrapped_told wraps (n ∷ ns) m s =
    bind_told having_of having_of (wrapped_once (slice_get wraps n) m (unlined s)) (lined.wrapped_once (slice_get wraps n) m s) _ _ (wrapped_once_told (slice_get wraps n) m s) (λ h. wrapped_told wraps ns h.message h.state)

committed_told : (names : Option (List ℕ)) (f : Formed) (numbers : Option (List ℕ)) (m : Message) (s : State) → Told unlined (committed names (formed_of f) numbers m (unlined s)) (lined.committed names f numbers m s)
committed_told names f None m s = tt
committed_told names f (Some numbers) m s =
    bind_told having_of unlined (wrapped f.wraps numbers m (unlined s)) (lined.wrapped f.wraps numbers m s) _ _ (wrapped_told f.wraps numbers m s) (λ h. received_told names h.message h.state)

synced_with_told : (names : Option (List ℕ)) (f : Formed) (left : List Chosen) → Told unlined (synced_with names (formed_of f) left) (lined.synced_with names f left)
synced_with_told names f [] = (refl, refl)
synced_with_told names f (c ∷ left) = committed_told names f (wraps_at f.tree c.0) c.1 (record f.state { left = left })

-- LOOPS

times_told : (n : ℕ) (one : after.State → Standing after.State) (other : State → Outcome State) → ((s : State) → Told unlined (one (unlined s)) (other s)) → (s : State) → Told unlined (times n one (unlined s)) (lined.times n other s)
times_told zero one other same s = refl
times_told (suc n) one other same s = bind_told unlined unlined (one (unlined s)) (other s) (times n one) (lined.times n other) (same s) (times_told n one other same)

-- a sync of what is resolved, and then the rest
turn_told : (names : Option (List ℕ)) (one : after.State → Standing after.Formed) (other : State → Outcome Formed) (rest : after.State → Standing after.State) (more : State → Outcome State) → ((s : State) → Told formed_of (one (unlined s)) (other s)) → ((s : State) → Told unlined (rest (unlined s)) (more s))
    → (s : State) → Told unlined (one (unlined s) >>= synced names >>= rest) (other s >>> lined.synced names >>> more)
turn_told names one other rest more same behind s =
    bind_told unlined unlined (one (unlined s) >>= synced names) (other s >>> lined.synced names) rest more
    (bind_told formed_of unlined (one (unlined s)) (other s) (synced names) (lined.synced names) (same s) (λ f. synced_with_told names f f.state.left)) behind

-- BASE EVENTS AND NACKS

base_told : (wraps : List Wrapping) (s : State) (r : Result Base Trouble) (q : Result Base Fault) → ValueTold s.store s.nacks r q → Told formed_of (given (unlined s) r >>= formed wraps (unlined s)) (lined.given s q >>> lined.formed wraps s)
base_told wraps s r q h = given_told formed_of s r q (formed wraps (unlined s)) (lined.formed wraps s) h (λ base. refl)

with_nack_told : (name : ℕ) (s : State) → Told unlined (with_nack name (unlined s)) (lined.with_nack name s)
with_nack_told name s =
    if_told (nat_le 64 s.nacks) _ _ _ _
    (λ e. let many : 64 ≤ s.nacks = grind (arith, nat_tests, e) in (refl, many, refl)) (λ e. refl)

-- STATEMENTS AND EVENTS

mutual
  block_told : (b : Block) (s : State) → Told unlined (run_block (plain_block b) (unlined s)) (lined.run_block b s)
  block_told Stops s = refl
  block_told (Runs stmt line rest) s =
      bind_told unlined unlined (run_stmt (plain_stmt stmt) (unlined s)) (lined.run_stmt line stmt (at_line line s)) (run_block (plain_block rest)) (lined.run_block rest) (stmt_told line stmt (at_line line s)) (block_told rest)

  stmt_told : (line : ℕ) (stmt : Stmt) (s : State) → Told unlined (run_stmt (plain_stmt stmt) (unlined s)) (lined.run_stmt line stmt s)
  stmt_told line (Lets name value) s = given_told unlined s (expr_value s.store value) (values.expr_value s.store value) _ _ (expr_told s.store s.nacks value) (λ atom. refl)
  stmt_told line (Prints value) s = given_told unlined s (expr_value s.store value) (values.expr_value s.store value) _ _ (expr_told s.store s.nacks value) (λ atom. refl)
  stmt_told line (Syncs names event) s =
      bind_told formed_of unlined (resolve (plain_event event) [] (unlined s)) (lined.resolve line event [] s) (synced names) (lined.synced names) (event_told line event [] s) (λ f. synced_with_told names f f.state.left)
  stmt_told line (Branches test first second) s =
      given_told unlined s (test_value s.store test) (values.test_value s.store test) _ _ (test_told s.store s.nacks test)
      (λ holds. if_told holds (run_block (plain_block first) (unlined s)) (run_block (plain_block second) (unlined s)) (lined.run_block first s) (lined.run_block second s) (λ e. block_told first s) (λ e. block_told second s))
  stmt_told line (Loops number at names event rest) s =
      times_told number (λ t. resolve (plain_event event) [] t >>= synced names >>= run_block (plain_block rest)) (λ t. lined.resolve at event [] (at_line at t) >>> lined.synced names >>> lined.run_block rest) (turn_told names (resolve (plain_event event) []) (λ t. lined.resolve at event [] (at_line at t)) (run_block (plain_block rest)) (lined.run_block rest) (λ t. event_told at event [] (at_line at t)) (block_told rest)) s
  stmt_told line (LoopsForever at names event rest) s =
      times_told (suc (length s.left)) (λ t. resolve (plain_event event) [] t >>= synced names >>= run_block (plain_block rest)) (λ t. lined.resolve at event [] (at_line at t) >>> lined.synced names >>> lined.run_block rest) (turn_told names (resolve (plain_event event) []) (λ t. lined.resolve at event [] (at_line at t)) (run_block (plain_block rest)) (lined.run_block rest) (λ t. event_told at event [] (at_line at t)) (block_told rest)) s
  stmt_told line Ends s = refl
  stmt_told line (Spawns process) s = refl

  event_told : (line : ℕ) (e : Event) (wraps : List Wrapping) (s : State) → Told formed_of (resolve (plain_event e) wraps (unlined s)) (lined.resolve line e wraps s)
  event_told line (Sends channel list) wraps s = base_told wraps s (send_value s.store channel list) (after.send_value s.store channel list) (send_told s.store s.nacks channel list)
  event_told line (Receives channel) wraps s = base_told wraps s (recv_value s.store channel) (after.recv_value s.store channel) (recv_told s.store s.nacks channel)
  event_told line (IsReady list) wraps s = base_told wraps s (always_value s.store list) (after.always_value s.store list) (always_told s.store s.nacks list)
  event_told line IsNever wraps s = refl
  event_told line (IsCancelled nack) wraps s = base_told wraps s (cancelled_value s.store nack) (after.cancelled_value s.store nack) (cancelled_told s.store s.nacks nack)
  event_told line (IsJoined process) wraps s = refl
  event_told line (Chooses members) wraps s = members_told line members wraps s
  event_told line (Wraps event names list) wraps s =
      let ws : List Wrapping = wraps ++ record { names = names; list = list } ∷ [] in
      bind_told formed_of formed_of (resolve (plain_event event) ws (unlined s)) (lined.resolve line event ws s) (as_wrap (length wraps)) (lined.as_wrap (length wraps)) (event_told line event ws s) (λ f. refl)
  event_told line (Guards body event) wraps s =
      bind_told unlined formed_of (run_block (plain_block body) (unlined s)) (lined.run_block body s >>> set_line line) (resolve (plain_event event) wraps) (lined.resolve line event wraps)
      (set_told line (run_block (plain_block body) (unlined s)) (lined.run_block body s) (block_told body s)) (event_told line event wraps)
  event_told line (NacksEvent name body event) wraps s =
      let made = with_nack name (unlined s) >>= run_block (plain_block body) in
      let other = lined.with_nack name s >>> lined.run_block body in
      bind_told formed_of formed_of (made >>= resolve (plain_event event) wraps) (other >>> set_line line >>> lined.resolve line event wraps) (as_scope s.nacks) (lined.as_scope s.nacks)
      (bind_told unlined formed_of made (other >>> set_line line) (resolve (plain_event event) wraps) (lined.resolve line event wraps)
      (set_told line made other (bind_told unlined unlined (with_nack name (unlined s)) (lined.with_nack name s) (run_block (plain_block body)) (lined.run_block body) (with_nack_told name s) (block_told body))) (event_told line event wraps))
      (λ f. refl)

  members_told : (line : ℕ) (es : Events) (wraps : List Wrapping) (s : State) → Told formed_of (resolve_all (plain_members es) wraps (unlined s)) (lined.resolve_all line es wraps s)
  members_told line NoMembers wraps s = refl
  members_told line (Members event others) wraps s =
      bind_told formed_of formed_of (resolve (plain_event event) wraps (unlined s)) (lined.resolve line event wraps s) _ _ (event_told line event wraps s)
      (λ f. bind_told formed_of formed_of (resolve_all (plain_members others) f.wraps (unlined f.state)) (lined.resolve_all line others f.wraps f.state) (as_first (formed_of f)) (lined.as_first f) (members_told line others f.wraps f.state) (λ g. refl))

-- whole bodies
pub standing_told : (body : Block) (variables thread : ℕ) (results : List Chosen) → Told unlined (standing (plain_block body) variables thread results) (lined.after body variables thread results)
standing_told body variables thread results =
    let s = lined.start thread variables results in
    bind_told unlined unlined (run_block (plain_block body) (unlined s)) (lined.run_block body s) finished lined.finished (block_told body s) (λ t. refl)
