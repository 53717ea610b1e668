-- A machine, as it is seen from outside: its process, what was given to it, and what it came to.
use Rattle.std.specs.Prelude.{◌≡◌, ◌<◌, ℕ, Bool, List, [], length, ⊤}
use Rattle.event.specs.Tree.{Tree, offers, scope_nacks}
use Rattle.thread_code.specs.declared.Code.{Code}
use Rattle.script_tree.specs.Processes.{IsProc, Proc}
use Rattle.script_tree.specs.Trees.{block_of}
use Rattle.script_tree.specs.declared.tree.Block.{Block}
use Rattle.protocol_values.specs.declared.Atom.{Atom}
use Rattle.protocol_values.specs.declared.Offer.{Offer}
use Rattle.thread.specs.declared.Fault.{Fault}
use Rattle.thread.specs.declared.machine.Turn.{Turn}
use Rattle.thread.specs.declared.machine.Turn.TheVariants as turn
use Rattle.thread.specs.After.{Chosen, Said, Offers, Finishes, Fails, after}

-- before its process, at an open sync, at an end, at a fault; or memory ran out while it moved
pub data Phase : Type 0 where
  Ready : Phase
  Open : (offers : List Offer) (nacks : List ℕ) → Phase
  Over : Phase
  Stuck : (fault : Fault) → Phase
  Broken : Phase

-- what it can tell again
pub record Keeping : Type 0 where
  -- whether that is so of its results
  pub results : Bool
  -- what it printed first and does not keep, since it was taken
  pub taken : List Atom

pub record Thread : Type 0 where
  pub body : Block
  -- what runs
  pub code : Code
  pub variables : ℕ
  pub thread : ℕ
  pub results : List Chosen
  pub keeps : Keeping
  pub phase : Phase
  pub output : List Atom
  pub spawned : List ℕ

abbrev pub said_in : Thread → Said
said_in m = record { printed = m.output; spawned = m.spawned }

-- the process comes to an event that makes these offers, with the nacks of its scopes
pub record OpensWith (m : Thread) (os : List Offer) (ns : List ℕ) : Type 0 where
  pub tree : Tree
  pub after : after (block_of m.body) m.variables m.thread m.results ≡ Offers tree (said_in m)
  pub offers : offers tree ≡ os
  pub nacks : scope_nacks tree ≡ ns

-- the phase and the output are what the process comes to after the results
abbrev pub IsAfterAt : Thread → Phase → Type 0
IsAfterAt m Ready = (m.results ≡ []) × (m.output ≡ []) × (m.spawned ≡ [])
IsAfterAt m (Open os ns) = OpensWith m os ns
IsAfterAt m Over = after (block_of m.body) m.variables m.thread m.results ≡ Finishes (said_in m) []
IsAfterAt m (Stuck fault) = after (block_of m.body) m.variables m.thread m.results ≡ Fails fault (said_in m) []
IsAfterAt m Broken = ⊤

abbrev pub IsAfter : Thread → Type 0
IsAfter m = IsAfterAt m m.phase

abbrev pub HasStopped : Phase → Type 0
HasStopped Ready = ⊥
HasStopped Broken = ⊥
HasStopped phase = ⊤

abbrev pub IsOpen : Phase → Type 0
IsOpen (Open os ns) = ⊤
IsOpen phase = ⊥

abbrev pub offers_in : Phase → List Offer
offers_in (Open os ns) = os
offers_in phase = []

abbrev pub nacks_in : Phase → List ℕ
nacks_in (Open os ns) = ns
nacks_in phase = []

-- the turn tells the phase
abbrev pub Tells : Turn → Phase → Type 0
Tells turn.Offering (Open os ns) = ⊤
Tells turn.Ended Over = ⊤
Tells (turn.Faulted fault) (Stuck found) = fault ≡ found
Tells turn phase = ⊥

-- the same process runs as the same thread
pub record SameProcess (old new : Thread) : Type 0 where
  pub body : new.body ≡ old.body
  pub code : new.code ≡ old.code
  pub variables : new.variables ≡ old.variables
  pub thread : new.thread ≡ old.thread

-- a machine that has the whole process before it, which keeps the limits of processes
pub record StartsAs (process : Proc) (number : ℕ) (m : Thread) : Type 0 where
  pub limits : IsProc process
  pub place : process.earlier < 64
  pub body : block_of m.body ≡ process.body
  pub variables : m.variables ≡ length process.variables
  pub thread : m.thread ≡ number
  pub results : m.results ≡ []
  pub output : m.output ≡ []
  pub spawned : m.spawned ≡ []
  pub phase : m.phase ≡ Ready
