-- A text comes to no more syncs than its parts together.
use Rattle.std.proofs.Common.{◌+◌, ◌*◌, ◌<◌, ◌≤◌, ℕ, zero, suc, Bool, true, false, List, [], ◌∷◌, Option, None, Some, Result, Ok, Err, length, slice_get, arith, subst, ◌≡◌}
use Rattle.std.specs.Prelude.{max, nat_le, if◌then◌else◌}
use Rattle.script_tree.specs.Trees.{Expr, Event, Sends, Receives, IsReady, IsNever, IsCancelled, IsJoined, Chooses, Wraps, Guards, Nacks, Events, NoMembers, Members, Stmt, Lets, Prints, Syncs, Branches, Loops, Ends, Spawns, Block, Stops, Runs, LoopBody, Test}
use Rattle.script_tree.specs.declared.tree.Name.{Name}
use Rattle.protocol_values.specs.declared.Atom.{Atom}
use Rattle.protocol_values.specs.declared.Message.{Message}
use Rattle.protocol_values.specs.declared.Offer.{Offer}
use Rattle.script_tree.specs.Processes.{Proc}
use Rattle.journal_ledger.specs.Ledgers.{ProcessOffers}
use Rattle.thread.specs.declared.Fault.{Fault}
use Rattle.thread.specs.declared.Fault.TheVariants.{Range}
use Rattle.thread.specs.Values.{expr_value, list_value, test_value, with_names}
use Rattle.thread.specs.After.{Chosen, Fails, Finishes, Formed, finished, Goes, Having, Offers, Outcome, State, Strays, Wrapping, ◌>>=◌, always_value, as_first, as_scope, as_wrap, cancelled_value, committed, given, received, recv_value, resolve, resolve_all, run_block, run_stmt, send_value, start, synced, synced_with, times, with_nack, with_variable, wrapped, wrapped_once}
use Rattle.runtime_run.specs.Syncs.{AllSyncAtMost, BlockSyncsAtMost, EventSyncsAtMost, MembersSyncAtMost, StmtSyncsAtMost, TakesAtMost, TurnSyncsAtMost, left_behind, left_in}

-- OUTCOMES

takes_more : {A : Type 0} (left : A → List Chosen) (had still first more : ℕ) (o : Outcome A) → had ≤ first + still → TakesAtMost more still left o → TakesAtMost (first + more) had left o
takes_more left had still first more (Goes value) le h = omega (arith, le, h)
takes_more left had still first more (Offers tree said) le h = omega (arith, le, h)
takes_more left had still first more (Finishes said rest) le h = tt
takes_more left had still first more (Fails fault said rest) le h = tt
takes_more left had still first more Strays le h = tt

takes_wider : {A : Type 0} (left : A → List Chosen) (had most wider : ℕ) (o : Outcome A) → most ≤ wider → TakesAtMost most had left o → TakesAtMost wider had left o
takes_wider left had most wider (Goes value) le h = omega (arith, le, h)
takes_wider left had most wider (Offers tree said) le h = omega (arith, le, h)
takes_wider left had most wider (Finishes said rest) le h = tt
takes_wider left had most wider (Fails fault said rest) le h = tt
takes_wider left had most wider Strays le h = tt

-- one after another
takes_then : {A B : Type 0} (left : A → List Chosen) (behind : B → List Chosen) (had first more : ℕ) (o : Outcome A) (f : A → Outcome B) → TakesAtMost first had left o → ((value : A) → TakesAtMost more (length (left value)) behind (f value))
    → TakesAtMost (first + more) had behind (o >>= f)
takes_then left behind had first more (Goes value) f h next = takes_more behind had (length (left value)) first more (f value) h (next value)
takes_then left behind had first more (Offers tree said) f h next = omega (arith, h)
takes_then left behind had first more (Finishes said rest) f h next = tt
takes_then left behind had first more (Fails fault said rest) f h next = tt
takes_then left behind had first more Strays f h next = tt

-- with a value, which takes no result
takes_given : {A B : Type 0} (behind : B → List Chosen) (most : ℕ) (s : State) (r : Result A Fault) (f : A → Outcome B) → ((value : A) → TakesAtMost most (length s.left) behind (f value)) → TakesAtMost most (length s.left) behind (given s r >>= f)
takes_given behind most s (Ok value) f next = next value
takes_given behind most s (Err fault) f next = tt

-- A SYNC takes one result
abbrev left_with : Having → List Chosen
left_with h = h.state.left

takes_received : (names : Option (List ℕ)) (message : Message) (s : State) → TakesAtMost 0 (length s.left) left_in (received names message s)
takes_received names message s = takes_given left_in 0 s (with_names names message s.store) _ (λ store. omega arith)

takes_wrapped_once : (w : Option Wrapping) (message : Message) (s : State) → TakesAtMost 0 (length s.left) left_with (wrapped_once w message s)
takes_wrapped_once None message s = omega arith
takes_wrapped_once (Some w) message s =
    takes_then left_in left_with (length s.left) 0 0 (received w.names message s) _ (takes_received w.names message s)
    (λ t. takes_given left_with 0 t (list_value t.store w.list) _ (λ changed. omega arith))

takes_wrapped : (wraps : List Wrapping) (numbers : List ℕ) (message : Message) (s : State) → TakesAtMost 0 (length s.left) left_with (wrapped wraps numbers message s)
takes_wrapped wraps [] message s = omega arith
takes_wrapped wraps (n ∷ ns) message s =
    takes_then left_with left_with (length s.left) 0 0 (wrapped_once (slice_get wraps n) message s) _ (takes_wrapped_once (slice_get wraps n) message s)
    (λ h. takes_wrapped wraps ns h.message h.state)

takes_committed : (names : Option (List ℕ)) (f : Formed) (numbers : Option (List ℕ)) (message : Message) (s : State) → TakesAtMost 0 (length s.left) left_in (committed names f numbers message s)
takes_committed names f None message s = tt
takes_committed names f (Some numbers) message s =
    takes_then left_with left_in (length s.left) 0 0 (wrapped f.wraps numbers message s) _ (takes_wrapped f.wraps numbers message s)
    (λ h. takes_received names h.message h.state)

takes_synced_with : (names : Option (List ℕ)) (f : Formed) (left : List Chosen) → TakesAtMost 1 (length left) left_in (synced_with names f left)
takes_synced_with names f [] = omega arith
takes_synced_with names f (c ∷ left) =
    let s : State = record f.state { left = left } in
    takes_more left_in (suc (length left)) (length left) 1 0 (committed names f _ c.1 s) (omega arith) (takes_committed names f _ c.1 s)

takes_synced : (names : Option (List ℕ)) (f : Formed) → TakesAtMost 1 (length f.state.left) left_in (synced names f)
takes_synced names f = takes_synced_with names f f.state.left

-- BLOCKS
pub block_stops : BlockSyncsAtMost 0 Stops
block_stops = record { takes = λ s. omega arith }

pub block_runs : (a b : ℕ) (stmt : Stmt) (rest : Block) → StmtSyncsAtMost a stmt → BlockSyncsAtMost b rest → BlockSyncsAtMost (a + b) (Runs stmt rest)
block_runs a b stmt rest first behind = record { takes = λ s. takes_then left_in left_in (length s.left) a b (run_stmt stmt s) (run_block rest) (first.takes s) behind.takes }

pub block_wider : (most wider : ℕ) (body : Block) → most ≤ wider → BlockSyncsAtMost most body → BlockSyncsAtMost wider body
block_wider most wider body le h = record { takes = λ s. takes_wider left_in (length s.left) most wider (run_block body s) le (h.takes s) }

-- STATEMENTS
pub stmt_lets : (name : ℕ) (value : Expr) → StmtSyncsAtMost 0 (Lets name value)
stmt_lets name value = record { takes = λ s. takes_given left_in 0 s (expr_value s.store value) _ (λ atom. omega arith) }

pub stmt_prints : (value : Expr) → StmtSyncsAtMost 0 (Prints value)
stmt_prints value = record { takes = λ s. takes_given left_in 0 s (expr_value s.store value) _ (λ atom. omega arith) }

pub stmt_ends : StmtSyncsAtMost 0 Ends
stmt_ends = record { takes = λ s. tt }

pub stmt_spawns : (process : ℕ) → StmtSyncsAtMost 0 (Spawns process)
stmt_spawns process = record { takes = λ s. omega arith }

pub stmt_syncs : (a : ℕ) (names : Option (List ℕ)) (event : Event) → EventSyncsAtMost a event → StmtSyncsAtMost (1 + a) (Syncs names event)
stmt_syncs a names event h = record {
  takes = λ s. takes_wider left_in (length s.left) (a + 1) (1 + a) (run_stmt (Syncs names event) s) (omega arith)
      (takes_then left_behind left_in (length s.left) a 1 (resolve event [] s) (synced names) (h.takes [] s) (takes_synced names));
}

takes_either : (most : ℕ) (s : State) (first second : Block) (holds : Bool) → BlockSyncsAtMost most first → BlockSyncsAtMost most second → TakesAtMost most (length s.left) left_in (if holds then run_block first s else run_block second s)
takes_either most s first second true a b = a.takes s
takes_either most s first second false a b = b.takes s

pub stmt_branches : (a b : ℕ) (test : Test) (first second : Block) → BlockSyncsAtMost a first → BlockSyncsAtMost b second → StmtSyncsAtMost (max a b) (Branches test first second)
stmt_branches a b test first second one other = record {
  takes = λ s. takes_given left_in (max a b) s (test_value s.store test) _
      (λ holds. takes_either (max a b) s first second holds (block_wider a (max a b) first (omega arith) one) (block_wider b (max a b) second (omega arith) other));
}

takes_times : (k : ℕ) (turn : State → Outcome State) → ((s : State) → TakesAtMost k (length s.left) left_in (turn s)) → (n : ℕ) (s : State) → TakesAtMost (n * k) (length s.left) left_in (times n turn s)
takes_times k turn each zero s = omega arith
takes_times k turn each (suc n) s =
    takes_wider left_in (length s.left) (k + n * k) (suc n * k) (times (suc n) turn s) (omega arith)
    (takes_then left_in left_in (length s.left) k (n * k) (turn s) (times n turn) (each s) (takes_times k turn each n))

-- of a loop without turns nothing need be known
pub stmt_loops : (k n : ℕ) (turn : LoopBody) → (1 ≤ n → TurnSyncsAtMost k turn) → StmtSyncsAtMost (k * n) (Loops n turn.names turn.event turn.rest)
stmt_loops k zero turn each = record { takes = λ s. omega arith }
stmt_loops k (suc n) turn each = record {
  takes = λ s. takes_wider left_in (length s.left) (suc n * k) (k * suc n) (run_stmt (Loops (suc n) turn.names turn.event turn.rest) s) (omega arith)
      (takes_times k _ (each (omega arith)).takes (suc n) s);
}

pub turn_syncs : (a b : ℕ) (turn : LoopBody) → EventSyncsAtMost a turn.event → BlockSyncsAtMost b turn.rest → TurnSyncsAtMost (1 + a + b) turn
turn_syncs a b turn event rest = record {
  takes = λ s. takes_then left_in left_in (length s.left) (1 + a) b (resolve turn.event [] s >>= synced turn.names) (run_block turn.rest)
      ((stmt_syncs a turn.names turn.event event).takes s) rest.takes;
}

-- EVENTS
pub event_sends : (channel : Name) (list : List Expr) → EventSyncsAtMost 0 (Sends channel list)
event_sends channel list = record { takes = λ wraps s. takes_given left_behind 0 s (send_value s.store channel list) _ (λ base. omega arith) }

pub event_receives : (channel : Name) → EventSyncsAtMost 0 (Receives channel)
event_receives channel = record { takes = λ wraps s. takes_given left_behind 0 s (recv_value s.store channel) _ (λ base. omega arith) }

pub event_ready : (list : List Expr) → EventSyncsAtMost 0 (IsReady list)
event_ready list = record { takes = λ wraps s. takes_given left_behind 0 s (always_value s.store list) _ (λ base. omega arith) }

pub event_never : EventSyncsAtMost 0 IsNever
event_never = record { takes = λ wraps s. omega arith }

pub event_cancelled : (nack : Name) → EventSyncsAtMost 0 (IsCancelled nack)
event_cancelled nack = record { takes = λ wraps s. takes_given left_behind 0 s (cancelled_value s.store nack) _ (λ base. omega arith) }

pub event_joined : (process : ℕ) → EventSyncsAtMost 0 (IsJoined process)
event_joined process = record { takes = λ wraps s. omega arith }

pub event_chooses : (a : ℕ) (all : Events) → MembersSyncAtMost a all → EventSyncsAtMost a (Chooses all)
event_chooses a all h = record { takes = h.takes }

pub event_wraps : (a : ℕ) (event : Event) (names : Option (List ℕ)) (list : List Expr) → EventSyncsAtMost a event → EventSyncsAtMost a (Wraps event names list)
event_wraps a event names list h = record {
  takes = λ wraps s. takes_wider left_behind (length s.left) (a + 0) a (resolve (Wraps event names list) wraps s) (omega arith)
      (takes_then left_behind left_behind (length s.left) a 0 (resolve event _ s) (as_wrap (length wraps)) (h.takes _ s) (λ f. omega arith));
}

pub event_guards : (a b : ℕ) (body : Block) (event : Event) → BlockSyncsAtMost a body → EventSyncsAtMost b event → EventSyncsAtMost (a + b) (Guards body event)
event_guards a b body event first behind = record {
  takes = λ wraps s. takes_then left_in left_behind (length s.left) a b (run_block body s) (resolve event wraps) (first.takes s) (behind.takes wraps);
}

takes_nack_if : (full : Bool) (name : ℕ) (atom : Atom) (s : State) → TakesAtMost 0 (length s.left) left_in (if full then Fails Range s.said s.left else Goes (with_variable name atom (record s { nacks = s.nacks + 1 })))
takes_nack_if true name atom s = tt
takes_nack_if false name atom s = omega arith

pub event_nacks : (a b name : ℕ) (body : Block) (event : Event) → BlockSyncsAtMost a body → EventSyncsAtMost b event → EventSyncsAtMost (a + b) (Nacks name body event)
event_nacks a b name body event first behind = record {
  takes = λ wraps s.
      let nack : TakesAtMost 0 (length s.left) left_in (with_nack name s) = takes_nack_if (nat_le 64 s.nacks) name _ s in
      takes_wider left_behind (length s.left) (0 + a + b + 0) (a + b) (resolve (Nacks name body event) wraps s) (omega arith)
      (takes_then left_behind left_behind (length s.left) (0 + a + b) 0 (with_nack name s >>= run_block body >>= resolve event wraps) (as_scope s.nacks)
      (takes_then left_in left_behind (length s.left) (0 + a) b (with_nack name s >>= run_block body) (resolve event wraps)
      (takes_then left_in left_in (length s.left) 0 a (with_nack name s) (run_block body) nack first.takes) (behind.takes wraps))
      (λ f. omega arith));
}

-- MEMBERS
pub members_none : MembersSyncAtMost 0 NoMembers
members_none = record { takes = λ wraps s. omega arith }

pub members_more : (a b : ℕ) (event : Event) (others : Events) → EventSyncsAtMost a event → MembersSyncAtMost b others → MembersSyncAtMost (a + b) (Members event others)
members_more a b event others first behind = record {
  takes = λ wraps s. takes_then left_behind left_behind (length s.left) a b (resolve event wraps s) _ (first.takes wraps s)
      (λ f. takes_wider left_behind (length f.state.left) (b + 0) b _ (omega arith)
      (takes_then left_behind left_behind (length f.state.left) b 0 (resolve_all others f.wraps f.state) (as_first f) (behind.takes f.wraps f.state) (λ g. omega arith)));
}

-- A PROCESS that offers a sync has made fewer
pub offers_within : (most : ℕ) (ps : List Proc) (t : ℕ) (results : List Chosen) (offers : List Offer) (nacks : List ℕ) → ((process : Proc) → slice_get ps t ≡ Some process → BlockSyncsAtMost most process.body)
    → ProcessOffers ps t results offers nacks → length results < most
offers_within most ps t results offers nacks few stands =
    let o = stands.offered in
    let P : Outcome State → Type 0 = λ x. TakesAtMost (most + 0) (length results) left_in x in
    let s : State = start t (length o.process.variables) results in
    let body = few o.process o.is_its in
    let below : length results < most + 0 = subst P o.offers (takes_then left_in left_in (length results) most 0 (run_block o.process.body s) finished (body.takes s) (λ end. tt)) in
    omega (arith, below)

pub offers_below : (most : ℕ) (ps : List Proc) (t : ℕ) (results : List Chosen) (offers : List Offer) (nacks : List ℕ) → AllSyncAtMost most ps → ProcessOffers ps t results offers nacks → length results < most
offers_below most ps t results offers nacks few stands = offers_within most ps t results offers nacks (few t) stands
