-- The machines of a run: which wait at first, and which are left.
use Rattle.std.specs.Prelude.{◌≡◌, ◌⊎◌, ◌<◌, ℕ, List, false, length, map, Option, None, Some, slice_get, Contains}
use Rattle.script_tree.specs.Processes.{Proc}
use Rattle.script_tree.specs.Spawning.{has_bit, spawns_block}
use Rattle.thread.specs.After.{Chosen}
use Rattle.thread.specs.Machines.{HasStopped, Thread}
use Rattle.protocol_ledger.specs.Ledgers.{Ledger}
use Rattle.protocol_ledger.specs.Standing.{AreResults}
use Rattle.runtime_worker.specs.declared.resident.Rest.{Rest}
use Rattle.runtime_worker.specs.declared.resident.Suspended.{Suspended}
use Rattle.runtime_worker.specs.Machines.{IsMachineOf}

-- the mask has a bit for each process that one of them spawns
abbrev pub MarksSpawned : List Proc → ℕ → Type 0
MarksSpawned ps later = (t s : ℕ) (p : Proc) → t < 64 → has_bit later t ≡ false → slice_get ps s ≡ Some p → spawns_block t p.body ≡ false

-- the machine in a suspended one
abbrev pub machine_in : Option Suspended → Option Thread
machine_in None = None
machine_in (Some s) = Some s.machine.value

-- these machines are those in the suspended ones, place by place
abbrev pub AreOut : List (Option Suspended) → List (Option Thread) → Type 0
AreOut homes machines = machines ≡ map machine_in homes

-- the machine at a thread's place lay at home, or it is at rest
abbrev pub ComesFrom : List (Option Suspended) → List Rest → ℕ → Thread → Type 0
ComesFrom homes rests t m =
    ((s : Suspended) × (slice_get homes t ≡ Some (Some s)) × (s.machine.value ≡ m)) ⊎ ((r : Rest) × Contains rests r × (r.thread ≡ t) × (r.suspended.machine.value ≡ m))

abbrev pub AreLeft : List (Option Suspended) → List Rest → List (Option Thread) → Type 0
AreLeft homes rests machines = (length machines ≡ length homes) × ((t : ℕ) (m : Thread) → slice_get machines t ≡ Some (Some m) → ComesFrom homes rests t m)

-- A machine that a table leaves stands for its thread, where these machines stood for the threads at first: it was given results
-- behind those of the first one, which the table's ledger gives to the thread's first rows.
pub record StandsOver (first : List (Option Suspended)) (l : Ledger) (t : ℕ) (m : Thread) : Type 0 where
  pub suspended : Suspended
  pub value : suspended.machine.value ≡ m
  pub results : List Chosen
  pub machine : IsMachineOf first suspended t results
  pub stopped : HasStopped m.phase
  pub are : AreResults l t results

-- one place for each thread, and what lies there stands so
abbrev pub AreLeftBy : List (Option Suspended) → Ledger → List (Option Thread) → Type 0
AreLeftBy first l machines = (length machines ≡ length first) × ((t : ℕ) (m : Thread) → slice_get machines t ≡ Some (Some m) → StandsOver first l t m)
