-- What a process offers has nacks and threads in range, if its results and its text have.
use Rattle.std.proofs.Common.{ℕ, ◌+◌, ◌<◌, ◌≤◌, List, [], ◌∷◌, subst, arith}
use Rattle.std.proofs.lemmas.List.Elements.{All-nil, All-cons, All-head, All-tail, All-append, All-map}
use Rattle.std.specs.Prelude.{⊤, All}
use Rattle.event.specs.Tree.{Tree, Single, Nothing, Or, Wrap, Scope, bases, bases_from, offers, offer_of, scope_count, with_scope, with_wrap}
use Rattle.script_tree.specs.Trees.{Event, Sends, Receives, IsReady, IsNever, IsCancelled, IsJoined, Chooses, Wraps, Guards, Nacks, Events, NoMembers, Members, Stmt, Lets, Prints, Syncs, Branches, Loops, LoopsForever, Ends, Spawns, Block, Stops, Runs, block_of}
use Rattle.script_tree.specs.Limits.{Known, EventIsIn, MembersAreIn, StmtIsIn, BlockIsIn}
use Rattle.protocol_values.specs.declared.Base.{Base}
use Rattle.protocol_values.specs.declared.Base.TheVariants.{Send, Recv, Always, OnNack, OnEnd, Never}
use Rattle.protocol_values.specs.declared.Message.{Message}
use Rattle.protocol_values.specs.declared.Message.TheVariants.{Empty, One, Two, Three}
use Rattle.thread.specs.After.{Chosen, Outcome, State}
use Rattle.thread.specs.Machines.{Thread, Phase, Ready, Open, Over, Stuck, Broken, IsAfter, IsAfterAt, offers_in}
use Rattle.thread.specs.Ranges.{AtomIsIn, MessageIsIn, BaseIsIn, OffersAreIn, ResultsAreIn}
use Rattle.thread.proofs.Keeping.{Rule, BaseOf, MessageOf, ResultsOf, TreeOf, Keeps, after_keeps, AnyValues, any_expr, any_list, any_name, into_name, from_name, EventOf, MembersOf, StmtOf, BlockOf}

-- nacks and threads in range, if the text joins processes in range
abbrev in_range : (t : ℕ) → t < 64 → Rule
in_range t below = record {
  thread = t;
  Good = AtomIsIn;
  Taken = λ k. ⊤;
  Scoped = λ k. ⊤;
  Small = λ n. ⊤;
  Literal = λ n. ⊤;
  Named = λ c. ⊤;
  Spawned = λ p. ⊤;
  Joined = λ p. p < 64;
  Into = λ c. ⊤;
  From = λ c. ⊤;
  literal = λ n h. tt;
  total = λ n h. tt;
  less = λ m n h. tt;
  channel = λ c h. tt;
  into = λ c h. h;
  from = λ c h. h;
  nack = λ k few h. (record { thread = below; k = few }, tt, tt);
}

message_in : (m : Message) → MessageIsIn m → MessageOf AtomIsIn m
message_in Empty h = tt
message_in (One a) h = h
message_in (Two a b) h = h
message_in (Three a b c) h = h

message_out : (m : Message) → MessageOf AtomIsIn m → MessageIsIn m
message_out Empty h = tt
message_out (One a) h = h
message_out (Two a b) h = h
message_out (Three a b c) h = h

base_out : (b : Base) → BaseOf AtomIsIn (λ p. p < 64) b → BaseIsIn b
base_out (Send channel message) h = message_out message h.1
base_out (Recv channel) h = tt
base_out (Always message) h = message_out message h
base_out (OnNack n) h = h
base_out (OnEnd thread) h = h
base_out Never h = tt

results_in : (results : List Chosen) → ResultsAreIn results → ResultsOf AtomIsIn results
results_in [] h = tt
results_in (r ∷ results) h = (message_in r.1 (All-head (λ q. MessageIsIn q.1) r results h), results_in results (All-tail (λ q. MessageIsIn q.1) r results h))

-- THE TEXT: it joins only processes that it can name

module _ (t : ℕ) (below : t < 64) (k : Known) (few : k.processes ≤ 64) where
  abbrev pub rule : Rule
  rule = in_range t below

  any_values : AnyValues rule
  any_values = record { literal = λ n. tt; named = λ c. tt }

  mutual
    event_joins : (event : Event) → EventIsIn k event → EventOf rule event
    event_joins (Sends channel list) h = (into_name rule channel (any_name rule any_values channel), any_list rule any_values list)
    event_joins (Receives channel) h = from_name rule channel (any_name rule any_values channel)
    event_joins (IsReady list) h = any_list rule any_values list
    event_joins IsNever h = tt
    event_joins (IsCancelled nack) h = any_name rule any_values nack
    event_joins (IsJoined process) h = omega (arith, h, few)
    event_joins (Chooses members) h = members_join members h
    event_joins (Wraps event names list) h = (event_joins event h.0, any_list rule any_values list)
    event_joins (Guards body event) h = (block_joins body h.0, event_joins event h.1)
    event_joins (Nacks name body event) h = (block_joins body h.1.0, event_joins event h.1.1)

    members_join : (members : Events) → MembersAreIn k members → MembersOf rule members
    members_join NoMembers h = tt
    members_join (Members event others) h = (event_joins event h.0, members_join others h.1)

    stmt_joins : (stmt : Stmt) → StmtIsIn k stmt → StmtOf rule stmt
    stmt_joins (Lets name value) h = any_expr rule any_values value
    stmt_joins (Prints value) h = any_expr rule any_values value
    stmt_joins (Syncs names event) h = (event_joins event h.1.0, tt)
    stmt_joins (Branches test first second) h = (block_joins first h.1.0, block_joins second h.1.1)
    stmt_joins (Loops times names event rest) h = ((event_joins event h.1.0, tt), block_joins rest h.1.1.1)
    stmt_joins (LoopsForever names event rest) h = ((event_joins event h.1.0, tt), block_joins rest h.1.1.1)
    stmt_joins Ends h = tt
    stmt_joins (Spawns process) h = tt

    pub block_joins : (body : Block) → BlockIsIn k body → BlockOf rule body
    block_joins Stops h = tt
    block_joins (Runs stmt rest) h = (stmt_joins stmt h.0, block_joins rest h.1)

-- OFFERS

bases_in_range : (n : ℕ) (t : Tree) → TreeOf AtomIsIn (λ p. p < 64) (λ k. ⊤) t → All (λ b. BaseIsIn b.base) (bases_from n t)
bases_in_range n (Single base) h = All-cons (λ b. BaseIsIn b.base) _ [] (base_out base h) (All-nil (λ b. BaseIsIn b.base))
bases_in_range n Nothing h = All-nil (λ b. BaseIsIn b.base)
bases_in_range n (Or first second) h =
    All-append (λ b. BaseIsIn b.base) (bases_from n first) _ (bases_in_range n first h.0) (bases_in_range (n + scope_count first) second h.1)
bases_in_range n (Wrap wrap event) h = All-map (λ b. BaseIsIn b.base) (with_wrap wrap) (bases_from n event) (bases_in_range n event h)
bases_in_range n (Scope nack event) h = All-map (λ b. BaseIsIn b.base) (with_scope n) (bases_from (n + 1) event) (bases_in_range (n + 1) event h.1)

offers_in_range : (t : Tree) → TreeOf AtomIsIn (λ p. p < 64) (λ k. ⊤) t → OffersAreIn (offers t)
offers_in_range t h = All-map (λ o. BaseIsIn o.base) offer_of (bases t) (bases_in_range 0 t h)

phase_in_range : (m : Thread) (k : Known) (phase : Phase) → IsAfterAt m phase → m.thread < 64 → k.processes ≤ 64 → BlockIsIn k (block_of m.body) → ResultsAreIn m.results → OffersAreIn (offers_in phase)
phase_in_range m k (Open os ns) is below few text r =
    let kept = in_range m.thread below in
    let P : Outcome State → Type 0 = λ x. Keeps kept x (λ s. ⊤) in
    let offered = subst P is.after (after_keeps kept (block_of m.body) m.variables m.results tt (block_joins m.thread below k few (block_of m.body) text) (results_in m.results r)) in
    subst OffersAreIn is.offers (offers_in_range is.tree offered.parts)
phase_in_range m k Ready is below few text r = All-nil (λ o. BaseIsIn o.base)
phase_in_range m k Over is below few text r = All-nil (λ o. BaseIsIn o.base)
phase_in_range m k (Stuck fault) is below few text r = All-nil (λ o. BaseIsIn o.base)
phase_in_range m k Broken is below few text r = All-nil (λ o. BaseIsIn o.base)

-- whatever a machine offers is in range, if its results are and its text names at most 64 processes
pub machine_in_range : (m : Thread) (k : Known) → IsAfter m → m.thread < 64 → k.processes ≤ 64 → BlockIsIn k (block_of m.body) → ResultsAreIn m.results → OffersAreIn (offers_in m.phase)
machine_in_range m k is below few text r = phase_in_range m k m.phase is below few text r
