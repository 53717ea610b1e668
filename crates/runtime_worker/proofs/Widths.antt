-- Where no sync of a process has more than so many base events, the process offers no more at once.
use Rattle.std.proofs.Common.{◌≡◌, ◌≤◌, ◌∙◌, ℕ, List, [], ◌∷◌, Option, Some, get_or, length, slice_get, subst, sym, arith}
use Rattle.std.proofs.lemmas.List.{length-map}
use Rattle.std.proofs.lemmas.Option.{same_Some, slice_get-get_or, slice_get_within}
use Rattle.std.specs.Prelude.{⊤}
use Rattle.event.specs.Tree.{bases, base_count, offers, offer_of}
use Rattle.script_tree.specs.Limits.{BlockIsIn, EventIsIn, Known, MembersAreIn, StmtIsIn}
use Rattle.script_tree.specs.Processes.{Proc}
use Rattle.script_tree.specs.Trees.{Event, Sends, Receives, IsReady, IsNever, IsCancelled, IsJoined, Chooses, Wraps, Guards, Nacks, Events, NoMembers, Members, Stmt, Lets, Prints, Syncs, Branches, Loops, LoopsForever, Ends, Spawns, Block, Stops, Runs, block_of}
use Rattle.protocol_values.specs.declared.Message.{Message}
use Rattle.protocol_values.specs.declared.Message.TheVariants.{Empty, One, Two, Three}
use Rattle.protocol_values.specs.declared.Offer.{Offer}
use Rattle.thread.specs.After.{Chosen, Outcome, State}
use Rattle.thread.specs.Machines.{IsAfter, IsAfterAt, Open, OpensWith, Thread}
use Rattle.thread.proofs.Keeping.{AnyValues, BlockOf, EventOf, Keeps, MembersOf, MessageOf, ResultsOf, Rule, StmtOf, after_keeps, any_expr, any_list, any_name, from_name, into_name}
use Rattle.runtime_worker.specs.declared.resident.Suspended.{Suspended}
use Rattle.runtime_worker.specs.Machines.{AreFirst, StandsFor}
use Rattle.runtime_worker.specs.Widths.{AllOfferAtMost, BodiesOfferAtMost, MembersOfferAtMost, OffersAtMost, StmtOffersAtMost}
use Rattle.runtime_worker.proofs.Processes.{process_of}

any_message : (m : Message) → MessageOf (λ a. ⊤) m
any_message Empty = tt
any_message (One a) = tt
any_message (Two a b) = (tt, tt)
any_message (Three a b c) = (tt, (tt, tt))

any_results : (results : List Chosen) → ResultsOf (λ a. ⊤) results
any_results [] = tt
any_results (r ∷ results) = (any_message r.1, any_results results)

module _ (k : ℕ) (t : ℕ) where
  -- of a sync alone something is kept: it has no more base events
  abbrev narrow : Rule
  narrow = record {
    thread = t;
    Good = λ a. ⊤;
    Taken = λ n. ⊤;
    Scoped = λ n. ⊤;
    Small = λ n. n ≤ k;
    Literal = λ n. ⊤;
    Named = λ c. ⊤;
    Spawned = λ p. ⊤;
    Joined = λ p. ⊤;
    Into = λ c. ⊤;
    From = λ c. ⊤;
    literal = λ n h. tt;
    total = λ n h. tt;
    less = λ m n h. tt;
    channel = λ c h. tt;
    into = λ c h. h;
    from = λ c h. h;
    nack = λ n few h. (tt, tt, tt);
  }

  any_values : AnyValues narrow
  any_values = record { literal = λ n. tt; named = λ c. tt }

  mutual
    event_is : (event : Event) → BodiesOfferAtMost k event → EventOf narrow event
    event_is (Sends channel list) h = (into_name narrow channel (any_name narrow any_values channel), any_list narrow any_values list)
    event_is (Receives channel) h = from_name narrow channel (any_name narrow any_values channel)
    event_is (IsReady list) h = any_list narrow any_values list
    event_is IsNever h = tt
    event_is (IsCancelled nack) h = any_name narrow any_values nack
    event_is (IsJoined process) h = tt
    event_is (Chooses members) h = members_are members h
    event_is (Wraps event names list) h = (event_is event h, any_list narrow any_values list)
    event_is (Guards body event) h = (block_is body h.0, event_is event h.1)
    event_is (Nacks name body event) h = (block_is body h.0, event_is event h.1)

    members_are : (members : Events) → MembersOfferAtMost k members → MembersOf narrow members
    members_are NoMembers h = tt
    members_are (Members event others) h = (event_is event h.0, members_are others h.1)

    stmt_is : (stmt : Stmt) → StmtOffersAtMost k stmt → StmtOf narrow stmt
    stmt_is (Lets name value) h = any_expr narrow any_values value
    stmt_is (Prints value) h = any_expr narrow any_values value
    stmt_is (Syncs names event) h = (event_is event h.1, h.0)
    stmt_is (Branches test first second) h = (block_is first h.0, block_is second h.1)
    stmt_is (Loops times names event rest) h = ((event_is event h.1.0, h.0), block_is rest h.1.1)
    stmt_is (LoopsForever names event rest) h = ((event_is event h.1.0, h.0), block_is rest h.1.1)
    stmt_is Ends h = tt
    stmt_is (Spawns process) h = tt

    block_is : (body : Block) → OffersAtMost k body → BlockOf narrow body
    block_is Stops h = tt
    block_is (Runs stmt rest) h = (stmt_is stmt h.0, block_is rest h.1)

open_at_most : (k : ℕ) (m : Thread) (os : List Offer) (ns : List ℕ) → OpensWith m os ns → OffersAtMost k (block_of m.body) → length os ≤ k
open_at_most k m os ns is text =
    let kept = narrow k m.thread in
    let P : Outcome State → Type 0 = λ x. Keeps kept x (λ s. ⊤) in
    let offered = subst P is.after (after_keeps kept (block_of m.body) m.variables m.results tt (block_is k m.thread (block_of m.body) text) (any_results m.results)) in
    let count : length (offers is.tree) ≡ base_count is.tree = length-map (bases is.tree) offer_of in
    let few = offered.small in
    subst (λ (l : List Offer). length l ≤ k) is.offers (omega (arith, count, few))

-- whatever results it was given, a machine offers no more at once
pub offers_at_most : (k : ℕ) (m : Thread) (os : List Offer) (ns : List ℕ) → IsAfter m → OffersAtMost k (block_of m.body) → m.phase ≡ Open os ns → length os ≤ k
offers_at_most k m os ns is text open_now = open_at_most k m os ns (subst (IsAfterAt m) open_now is) text

-- THE LIMITS of processes: no sync has more than 8 base events

mutual
  event_keeps : (known : Known) (event : Event) → EventIsIn known event → BodiesOfferAtMost 8 event
  event_keeps known (Sends channel list) h = tt
  event_keeps known (Receives channel) h = tt
  event_keeps known (IsReady list) h = tt
  event_keeps known IsNever h = tt
  event_keeps known (IsCancelled nack) h = tt
  event_keeps known (IsJoined process) h = tt
  event_keeps known (Chooses members) h = members_keep known members h
  event_keeps known (Wraps event names list) h = event_keeps known event h.0
  event_keeps known (Guards body event) h = (limits_keep known body h.0, event_keeps known event h.1)
  event_keeps known (Nacks name body event) h = (limits_keep known body h.1.0, event_keeps known event h.1.1)

  members_keep : (known : Known) (members : Events) → MembersAreIn known members → MembersOfferAtMost 8 members
  members_keep known NoMembers h = tt
  members_keep known (Members event others) h = (event_keeps known event h.0, members_keep known others h.1)

  stmt_keeps : (known : Known) (stmt : Stmt) → StmtIsIn known stmt → StmtOffersAtMost 8 stmt
  stmt_keeps known (Lets name value) h = tt
  stmt_keeps known (Prints value) h = tt
  stmt_keeps known (Syncs names event) h = (h.1.1.0, event_keeps known event h.1.0)
  stmt_keeps known (Branches test first second) h = (limits_keep known first h.1.0, limits_keep known second h.1.1)
  stmt_keeps known (Loops times names event rest) h = (h.1.1.0.0, (event_keeps known event h.1.0, limits_keep known rest h.1.1.1))
  stmt_keeps known (LoopsForever names event rest) h = (h.1.1.0.0, (event_keeps known event h.1.0, limits_keep known rest h.1.1.1))
  stmt_keeps known Ends h = tt
  stmt_keeps known (Spawns process) h = tt

  pub limits_keep : (known : Known) (body : Block) → BlockIsIn known body → OffersAtMost 8 body
  limits_keep known Stops h = tt
  limits_keep known (Runs stmt rest) h = (stmt_keeps known stmt h.0, limits_keep known rest h.1)

-- THREADS

-- of one process among those
pub width_of : (k : ℕ) (ps : List Proc) (s : ℕ) (p : Proc) → AllOfferAtMost k ps → slice_get ps s ≡ Some p → OffersAtMost k p.body
width_of k ps s p all is =
    let there : p ≡ get_or ps s p = same_Some p (get_or ps s p) (sym is ∙ slice_get-get_or ps s p (slice_get_within ps s p is)) in
    subst (λ (q : Proc). OffersAtMost k q.body) (sym there) (all s p (slice_get_within ps s p is))

-- what stands for a thread of these processes offers no more at once
pub stands_at_most : (k : ℕ) (ps : List Proc) (first : List (Option Suspended)) (t : ℕ) (m : Suspended) (results : List Chosen) (os : List Offer) (ns : List ℕ) → AreFirst ps first → AllOfferAtMost k ps → StandsFor first m t results os ns → length os ≤ k
stands_at_most k ps first t m results os ns are all stands =
    let of = process_of ps first t m results are stands.0 in
    offers_at_most k m.machine.value os ns stands.0.after (subst (OffersAtMost k) (sym of.2.body) (width_of k ps t of.0 all of.1)) stands.1
