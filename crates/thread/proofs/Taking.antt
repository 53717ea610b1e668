-- Nothing gives results back, and a turn of a loop takes one.
use Rattle.std.proofs.Common.{◌≡◌, ℕ, zero, suc, ◌<◌, ◌≤◌, List, [], ◌∷◌, Option, Some, None, length, slice_get, refl, ap, subst, arith, nat_le}
use Rattle.std.specs.Prelude.{⊤}
use Rattle.event.specs.Tree.{wraps_at}
use Rattle.script_tree.specs.Trees.{Event, Sends, Receives, IsReady, IsNever, IsCancelled, IsJoined, Chooses, Wraps, Guards, Nacks, Events, NoMembers, Members, Stmt, Lets, Prints, Syncs, Branches, Loops, LoopsForever, Ends, Spawns, Block, Stops, Runs, LoopBody}
use Rattle.protocol_values.specs.declared.Message.{Message}
use Rattle.thread.specs.Values.{expr_value, list_value, test_value, with_names}
use Rattle.thread.specs.After.{State, Chosen, Outcome, ◌>>=◌, given, received, Wrapping, wrapped_once, wrapped, Formed, committed, synced_with, synced, times, formed, with_nack, as_wrap, as_scope, as_first, run_block, run_stmt, resolve, resolve_all}
use Rattle.thread.proofs.Binding.{IfGoes, bind_goes, given_goes, goes_weaker, if_goes}

abbrev pub NoMore : State → State → Type 0
NoMore s t = length t.left ≤ length s.left

abbrev FormsNoMore : State → Formed → Type 0
FormsNoMore s f = length f.state.left ≤ length s.left

-- COMMITS

received_left : (names : Option (List ℕ)) (message : Message) (s : State) → IfGoes (received names message s) (λ t. t.left ≡ s.left)
received_left names message s =
    bind_goes (given s (with_names names message s.store)) _ (λ _. ⊤) (λ t. t.left ≡ s.left) (given_goes s _) (λ store h. refl)

wrapped_once_left : (w : Option Wrapping) (message : Message) (s : State) → IfGoes (wrapped_once w message s) (λ h. h.state.left ≡ s.left)
wrapped_once_left None message s = refl
wrapped_once_left (Some w) message s =
    bind_goes (received w.names message s) _ (λ t. t.left ≡ s.left) (λ h. h.state.left ≡ s.left) (received_left w.names message s) (λ t e.
    bind_goes (given t (list_value t.store w.list)) _ (λ _. ⊤) (λ h. h.state.left ≡ s.left) (given_goes t _) (λ m h. e))

wrapped_left : (wraps : List Wrapping) (ns : List ℕ) (message : Message) (s : State) → IfGoes (wrapped wraps ns message s) (λ h. h.state.left ≡ s.left)
wrapped_left wraps [] message s = refl
wrapped_left wraps (n ∷ ns) message s =
    bind_goes (wrapped_once (slice_get wraps n) message s) _ (λ h. h.state.left ≡ s.left) (λ h. h.state.left ≡ s.left) (wrapped_once_left (slice_get wraps n) message s) (λ h e.
    let P : List Chosen → Type 0 = λ left. IfGoes (wrapped wraps ns h.message h.state) (λ g. g.state.left ≡ left) in
    subst P e (wrapped_left wraps ns h.message h.state))

committed_left : (names : Option (List ℕ)) (f : Formed) (numbers : Option (List ℕ)) (message : Message) (s : State) → IfGoes (committed names f numbers message s) (λ t. t.left ≡ s.left)
committed_left names f None message s = tt
committed_left names f (Some numbers) message s =
    bind_goes (wrapped f.wraps numbers message s) _ (λ h. h.state.left ≡ s.left) (λ t. t.left ≡ s.left) (wrapped_left f.wraps numbers message s) (λ h e.
    let P : List Chosen → Type 0 = λ left. IfGoes (received names h.message h.state) (λ t. t.left ≡ left) in
    subst P e (received_left names h.message h.state))

synced_with_takes : (names : Option (List ℕ)) (f : Formed) (left : List Chosen) → IfGoes (synced_with names f left) (λ t. length t.left < length left)
synced_with_takes names f [] = tt
synced_with_takes names f (c ∷ left) =
    goes_weaker (committed names f (wraps_at f.tree c.0) c.1 (record f.state { left = left })) (λ t. t.left ≡ left) (λ t. length t.left < length (c ∷ left)) (λ t e. omega (arith, ap length e))
    (committed_left names f (wraps_at f.tree c.0) c.1 (record f.state { left = left }))

synced_takes : (names : Option (List ℕ)) (f : Formed) → IfGoes (synced names f) (λ t. length t.left < length f.state.left)
synced_takes names f = synced_with_takes names f f.state.left

-- LOOPS

times_keeps : (n : ℕ) (turn : State → Outcome State) → ((s : State) → IfGoes (turn s) (NoMore s)) → (s : State) → IfGoes (times n turn s) (NoMore s)
times_keeps zero turn keeps s = omega arith
times_keeps (suc n) turn keeps s =
    bind_goes (turn s) (times n turn) (NoMore s) (NoMore s) (keeps s) (λ t h.
    goes_weaker (times n turn t) (NoMore t) (NoMore s) (λ u k. omega (arith, h, k)) (times_keeps n turn keeps t))

-- one turn of a loop, taken apart
turn_keeps : (names : Option (List ℕ)) (event : State → Outcome Formed) (rest : State → Outcome State) → ((s : State) → IfGoes (event s) (FormsNoMore s)) → ((s : State) → IfGoes (rest s) (NoMore s)) → (s : State) → IfGoes (event s >>= synced names >>= rest) (λ t. length t.left < length s.left)
turn_keeps names event rest forms keeps s =
    bind_goes (event s >>= synced names) rest (λ t. length t.left < length s.left) (λ t. length t.left < length s.left)
    (bind_goes (event s) (synced names) (FormsNoMore s) (λ t. length t.left < length s.left) (forms s) (λ f h.
    goes_weaker (synced names f) (λ t. length t.left < length f.state.left) (λ t. length t.left < length s.left) (λ t k. omega (arith, h, k)) (synced_takes names f)))
    (λ t h. goes_weaker (rest t) (NoMore t) (λ u. length u.left < length s.left) (λ u k. omega (arith, h, k)) (keeps t))

below : (turn : State → Outcome State) → ((s : State) → IfGoes (turn s) (λ t. length t.left < length s.left)) → (s : State) → IfGoes (turn s) (NoMore s)
below turn takes s = goes_weaker (turn s) (λ t. length t.left < length s.left) (NoMore s) (λ t k. omega (arith, k)) (takes s)

-- EVERY PART

base_keeps : {A : Type 0} (wraps : List Wrapping) (s : State) (x : Outcome A) (f : A → Outcome Formed) → IfGoes x (λ _. ⊤) → ((a : A) → IfGoes (f a) (FormsNoMore s)) → IfGoes (x >>= f) (FormsNoMore s)
base_keeps wraps s x f h forms = bind_goes x f (λ _. ⊤) (FormsNoMore s) h (λ a k. forms a)

with_nack_keeps : (name : ℕ) (s : State) → IfGoes (with_nack name s) (NoMore s)
with_nack_keeps name s = if_goes (nat_le 64 s.nacks) _ _ (NoMore s) tt (omega arith)

mutual
  pub block_keeps : (b : Block) (s : State) → IfGoes (run_block b s) (NoMore s)
  block_keeps Stops s = omega arith
  block_keeps (Runs stmt rest) s =
      bind_goes (run_stmt stmt s) (run_block rest) (NoMore s) (NoMore s) (stmt_keeps stmt s) (λ t h.
      goes_weaker (run_block rest t) (NoMore t) (NoMore s) (λ u k. omega (arith, h, k)) (block_keeps rest t))

  stmt_keeps : (stmt : Stmt) (s : State) → IfGoes (run_stmt stmt s) (NoMore s)
  stmt_keeps (Lets name value) s =
      bind_goes (given s (expr_value s.store value)) _ (λ _. ⊤) (NoMore s) (given_goes s _) (λ a h. omega arith)
  stmt_keeps (Prints value) s =
      bind_goes (given s (expr_value s.store value)) _ (λ _. ⊤) (NoMore s) (given_goes s _) (λ a h. omega arith)
  stmt_keeps (Syncs names event) s =
      bind_goes (resolve event [] s) (synced names) (FormsNoMore s) (NoMore s) (event_keeps event [] s) (λ f h.
      goes_weaker (synced names f) (λ t. length t.left < length f.state.left) (NoMore s) (λ t k. omega (arith, h, k)) (synced_takes names f))
  stmt_keeps (Branches test first second) s =
      bind_goes (given s (test_value s.store test)) _ (λ _. ⊤) (NoMore s) (given_goes s _) (λ holds h.
      if_goes holds _ _ (NoMore s) (block_keeps first s) (block_keeps second s))
  stmt_keeps (Loops number names event rest) s =
      times_keeps number _ (below _ (turn_keeps names (resolve event []) (run_block rest) (event_keeps event []) (block_keeps rest))) s
  stmt_keeps (LoopsForever names event rest) s =
      times_keeps (suc (length s.left)) _ (below _ (turn_keeps names (resolve event []) (run_block rest) (event_keeps event []) (block_keeps rest))) s
  stmt_keeps Ends s = tt
  stmt_keeps (Spawns process) s = omega arith

  event_keeps : (event : Event) (wraps : List Wrapping) (s : State) → IfGoes (resolve event wraps s) (FormsNoMore s)
  event_keeps (Sends channel list) wraps s = base_keeps wraps s (given s _) (formed wraps s) (given_goes s _) (λ base. omega arith)
  event_keeps (Receives channel) wraps s = base_keeps wraps s (given s _) (formed wraps s) (given_goes s _) (λ base. omega arith)
  event_keeps (IsReady list) wraps s = base_keeps wraps s (given s _) (formed wraps s) (given_goes s _) (λ base. omega arith)
  event_keeps IsNever wraps s = omega arith
  event_keeps (IsJoined process) wraps s = omega arith
  event_keeps (IsCancelled nack) wraps s = base_keeps wraps s (given s _) (formed wraps s) (given_goes s _) (λ base. omega arith)
  event_keeps (Chooses members) wraps s = members_keep members wraps s
  event_keeps (Wraps event names list) wraps s =
      bind_goes (resolve event _ s) (as_wrap (length wraps)) (FormsNoMore s) (FormsNoMore s) (event_keeps event _ s) (λ f h. h)
  event_keeps (Guards body event) wraps s =
      bind_goes (run_block body s) (resolve event wraps) (NoMore s) (FormsNoMore s) (block_keeps body s) (λ t h.
      goes_weaker (resolve event wraps t) (FormsNoMore t) (FormsNoMore s) (λ u k. omega (arith, h, k)) (event_keeps event wraps t))
  event_keeps (Nacks name body event) wraps s =
      bind_goes (with_nack name s >>= run_block body >>= resolve event wraps) (as_scope s.nacks) (FormsNoMore s) (FormsNoMore s)
      (bind_goes (with_nack name s >>= run_block body) (resolve event wraps) (NoMore s) (FormsNoMore s)
      (bind_goes (with_nack name s) (run_block body) (NoMore s) (NoMore s) (with_nack_keeps name s) (λ t h.
      goes_weaker (run_block body t) (NoMore t) (NoMore s) (λ u k. omega (arith, h, k)) (block_keeps body t))) (λ t h.
      goes_weaker (resolve event wraps t) (FormsNoMore t) (FormsNoMore s) (λ u k. omega (arith, h, k)) (event_keeps event wraps t)))
      (λ f h. h)

  members_keep : (members : Events) (wraps : List Wrapping) (s : State) → IfGoes (resolve_all members wraps s) (FormsNoMore s)
  members_keep NoMembers wraps s = omega arith
  members_keep (Members event others) wraps s =
      bind_goes (resolve event wraps s) _ (FormsNoMore s) (FormsNoMore s) (event_keeps event wraps s) (λ f h.
      bind_goes (resolve_all others f.wraps f.state) (as_first f) (FormsNoMore f.state) (FormsNoMore s) (members_keep others f.wraps f.state) (λ g k. omega (arith, h, k)))

-- TURNS

abbrev pub turn_on : LoopBody → State → Outcome State
turn_on turn s = resolve turn.event [] s >>= synced turn.names >>= run_block turn.rest

pub turn_takes : (turn : LoopBody) (s : State) → IfGoes (turn_on turn s) (λ t. length t.left < length s.left)
turn_takes turn s =
    turn_keeps turn.names (resolve turn.event []) (run_block turn.rest) (event_keeps turn.event []) (block_keeps turn.rest) s
