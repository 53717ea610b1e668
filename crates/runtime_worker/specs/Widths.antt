-- How many offers the syncs of a text make at most.
use Rattle.std.specs.Prelude.{ℕ, ◌≤◌, ⊤, All, List}
use Rattle.script_tree.specs.Limits.{base_count}
use Rattle.script_tree.specs.Processes.{Proc}
use Rattle.script_tree.specs.Trees.{Event, Sends, Receives, IsReady, IsNever, IsCancelled, IsJoined, Chooses, Wraps, Guards, Nacks, Events, NoMembers, Members, Stmt, Lets, Prints, Syncs, Branches, Loops, LoopsForever, Ends, Spawns, Block, Stops, Runs, LoopBody}

-- Each sync of the text, also one that a loop begins with, has at most so many base events. The syncs of an event are those in the
-- bodies of its guards and nacks: of its own base events nothing is said.
abbrev mutual
  pub BodiesOfferAtMost : ℕ → Event → Type 0
  BodiesOfferAtMost k (Sends channel list) = ⊤
  BodiesOfferAtMost k (Receives channel) = ⊤
  BodiesOfferAtMost k (IsReady list) = ⊤
  BodiesOfferAtMost k IsNever = ⊤
  BodiesOfferAtMost k (IsCancelled nack) = ⊤
  BodiesOfferAtMost k (IsJoined process) = ⊤
  BodiesOfferAtMost k (Chooses members) = MembersOfferAtMost k members
  BodiesOfferAtMost k (Wraps event names list) = BodiesOfferAtMost k event
  BodiesOfferAtMost k (Guards body event) = OffersAtMost k body × BodiesOfferAtMost k event
  BodiesOfferAtMost k (Nacks name body event) = OffersAtMost k body × BodiesOfferAtMost k event

  pub MembersOfferAtMost : ℕ → Events → Type 0
  MembersOfferAtMost k NoMembers = ⊤
  MembersOfferAtMost k (Members event others) = BodiesOfferAtMost k event × MembersOfferAtMost k others

  pub StmtOffersAtMost : ℕ → Stmt → Type 0
  StmtOffersAtMost k (Lets name value) = ⊤
  StmtOffersAtMost k (Prints value) = ⊤
  StmtOffersAtMost k (Syncs names event) = (base_count event ≤ k) × BodiesOfferAtMost k event
  StmtOffersAtMost k (Branches test first second) = OffersAtMost k first × OffersAtMost k second
  StmtOffersAtMost k (Loops times names event rest) = (base_count event ≤ k) × (BodiesOfferAtMost k event × OffersAtMost k rest)
  StmtOffersAtMost k (LoopsForever names event rest) = (base_count event ≤ k) × (BodiesOfferAtMost k event × OffersAtMost k rest)
  StmtOffersAtMost k Ends = ⊤
  StmtOffersAtMost k (Spawns process) = ⊤

  pub OffersAtMost : ℕ → Block → Type 0
  OffersAtMost k Stops = ⊤
  OffersAtMost k (Runs stmt rest) = StmtOffersAtMost k stmt × OffersAtMost k rest

-- the turn of a loop
abbrev pub TurnOffersAtMost : ℕ → LoopBody → Type 0
TurnOffersAtMost k turn = (base_count turn.event ≤ k) × (BodiesOfferAtMost k turn.event × OffersAtMost k turn.rest)

-- each of these processes
abbrev pub AllOfferAtMost : ℕ → List Proc → Type 0
AllOfferAtMost k processes = All (λ p. OffersAtMost k p.body) processes
