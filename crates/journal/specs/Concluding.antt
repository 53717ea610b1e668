-- What the machines of a run's end, and its ledger, tell of each thread.
use Rattle.std.specs.Prelude.{◌≡◌, ◌+◌, ◌*◌, ◌≤◌, if◌then◌else◌, ℕ, List, Contains, Option, Some, None, length, nat_lt, option_and_then, slice_get, slice_index_or, take}
use Rattle.script_tree.specs.Processes.{Proc}
use Rattle.script_tree.specs.declared.tree.Block.{Block as Tree}
use Rattle.thread.specs.Machines.{Thread}
use Rattle.protocol_ledger.specs.Ledgers.{Ledger}
use Rattle.protocol_ledger.specs.Standing.{AreResults}
use Rattle.protocol_ledger.specs.declared.opening.Life.{Life}
use Rattle.protocol_ledger.specs.declared.opening.Life.TheVariants.{Unstarted, Running, Ended}
use Rattle.protocol_ledger.specs.declared.opening.NackState.{NackState}
use Rattle.journal_ledger.specs.Ledgers.{fired_as}
use Rattle.thread_strand.specs.declared.strand.Known.{Known}
use Rattle.protocol_values.specs.declared.Commit.{Commit}
use Rattle.journal_replay.specs.Gathering.{HasGone}
use Rattle.journal_replay.specs.Runs.{config_of}
use Rattle.journal_replay.specs.Standing.{MachineStands}
use Rattle.journal_replay.specs.Starting.{HasSpawned}

-- The machine stands after the results that the ledger gives to the thread's first rows, and has spawned what its process has
-- after fewer of them.
pub record StandsIn (ps : List Proc) (l : Ledger) (t : ℕ) (m : Thread) : Type 0 where
  pub stands : MachineStands ps t m.results m
  pub are : AreResults l t m.results
  pub told : (n u : ℕ) → n ≤ length m.results → HasSpawned ps t (take n m.results) u → Contains m.spawned u

-- one place for each thread, and what lies there stands so
abbrev pub AreStanding : List Proc → Ledger → List (Option Thread) → Type 0
AreStanding ps l machines = (length machines ≡ length ps) × ((t : ℕ) (m : Thread) → slice_get machines t ≡ Some (Some m) → StandsIn ps l t m)

-- one place for each thread, and what lies there stands after some of the results that the commits give to its thread
abbrev pub AreGone : List Proc → List Commit → List (Option Thread) → Type 0
AreGone ps commits machines = (length machines ≡ length ps) × ((t : ℕ) (m : Thread) → slice_get machines t ≡ Some (Some m) → HasGone ps t (config_of commits t) m)

-- each machine runs the tree at its thread's place
abbrev pub RunTrees : List Tree → List (Option Thread) → Type 0
RunTrees trees machines = (t : ℕ) (m : Thread) → slice_get machines t ≡ Some (Some m) → slice_get trees t ≡ Some m.body

-- the last stamp of a thread that has started
abbrev pub last_if : Life × ℕ → Option ℕ
last_if (Unstarted, stamp) = None
last_if (Running, stamp) = Some stamp
last_if (Ended, stamp) = Some stamp

abbrev pub last_in : List (Life × ℕ) → ℕ → Option ℕ
last_in threads t = option_and_then last_if (slice_get threads t)

-- the stamp of the commit that fired a nack, by what a ledger tells of 64 nacks a thread
abbrev pub fired_in : List NackState → ℕ → ℕ → Option ℕ
fired_in states t k = if nat_lt k 64 then option_and_then fired_as (slice_get states (t * 64 + k)) else None

-- what is known of a thread by this machine, and by what a ledger tells
pub record KnownBy (threads : List (Life × ℕ)) (states : List NackState) (t : ℕ) (m : Option Thread) (k : Known) : Type 0 where
  pub machine : k.machine ≡ m
  pub last : k.last ≡ last_in threads t
  pub fired : (n : ℕ) → slice_index_or k.fired n None ≡ fired_in states t n

-- and of each of them
abbrev pub EachKnownBy : List (Life × ℕ) → List NackState → List (Option Thread) → List Known → Type 0
EachKnownBy threads states machines known =
    (length known ≡ length machines)
    × ((t : ℕ) (k : Known) → slice_get known t ≡ Some k → (m : Option Thread) × (slice_get machines t ≡ Some m) × KnownBy threads states t m k)
