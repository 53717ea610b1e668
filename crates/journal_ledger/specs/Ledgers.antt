-- Ledgers of processes: each thread offers what its process offers after its results, starts the processes that it spawns, and ends
-- where it ends.
use Rattle.std.specs.Prelude.{◌≡◌, ℕ, ◌<◌, ◌≤◌, false, List, Option, None, Some, length, take, IsPermutation}
use Rattle.event.specs.Tree.{Tree, offers, scope_nacks}
use Rattle.script_tree.specs.Processes.{Proc}
use Rattle.script_tree.specs.Spawning.{spawner}
use Rattle.thread.specs.After.{Chosen}
use Rattle.protocol_values.specs.declared.Commit.{Commit}
use Rattle.protocol_values.specs.declared.NackName.{NackName}
use Rattle.protocol_values.specs.declared.Offer.{Offer}
use Rattle.protocol_values.specs.declared.Seat.{Seat}
use Rattle.protocol_values.specs.declared.Step.{Step}
use Rattle.protocol_values.specs.Commits.{IsInOrder}
use Rattle.protocol_ledger.specs.Acting.{Acts, ActsAs, Before, EachStepsAs, HasStart}
use Rattle.protocol_ledger.specs.Ledgers.{Ledger, IsLawful, commits_in, course_in, ledger_of}
use Rattle.protocol_ledger.specs.Openings.{IsLastStamp, TellsNack}
use Rattle.protocol_ledger.specs.Standing.{AreResults}
use Rattle.protocol_ledger.specs.declared.opening.NackState.{NackState}
use Rattle.protocol_ledger.specs.declared.opening.NackState.TheVariants.{Unbound, Unsettled, Dead, Enabled}
use Rattle.protocol_ledger.specs.Worlds.{Plays, World, start_world, waits}
use Rattle.journal_replay.specs.Runs.{CountsOf, IsGreatest, IsOffering, IsRun, Starts, config_of}
use Rattle.journal_replay.specs.Standing.{KnowsNack}
use Rattle.journal_replay.specs.Starting.{HasEnded, SpawnsAt}

-- THE LEDGER'S ORDER: by stamp, and then by the thread named first

-- these are a ledger's commits in this order
pub record IsOrderOf (l : Ledger) (commits : List Commit) : Type 0 where
  pub all : IsPermutation (commits_in l) commits
  pub ordered : IsInOrder commits

-- a lawful ledger has one such list
abbrev pub OneLedgerOrder : Type 0
OneLedgerOrder = (l : Ledger) (first second : List Commit) → IsLawful l → IsOrderOf l first → IsOrderOf l second → first ≡ second

-- WHAT PROCESSES DO

-- after these results the thread's process offers an event that makes these offers, with these nacks of its scopes
pub record ProcessOffers (ps : List Proc) (t : ℕ) (results : List Chosen) (made : List Offer) (nacks : List ℕ) : Type 0 where
  pub event : Tree
  pub offered : IsOffering ps t results event
  pub are : offers event ≡ made
  pub scopes : scope_nacks event ≡ nacks

-- behind the last of these results, and not before, the thread has spawned the process
pub record ProcessSpawns (ps : List Proc) (s : ℕ) (results : List Chosen) (t : ℕ) : Type 0 where
  pub by : spawner ps t ≡ Some s
  pub at : SpawnsAt ps s results t (length results)

-- what the threads do of processes
abbrev pub acts_of : List Proc → Acts
acts_of ps = record { offers = ProcessOffers ps; starts = ProcessSpawns ps; ends = HasEnded ps }

-- no text spawns it
abbrev pub IsFirst : List Proc → ℕ → Type 0
IsFirst ps t = spawner ps t ≡ None

-- nothing went before: those that no text spawns have started, with no stamp
abbrev pub nothing_before : List Proc → Before
nothing_before ps = record { started = λ t stamp. IsFirst ps t × (stamp ≡ 0); ended = λ t. ⊥; stamps = 0 }

abbrev pub IsLedgerOf : List Proc → Ledger → Type 0
IsLedgerOf ps l = ActsAs (nothing_before ps) (acts_of ps) l

-- the commits of a lawful ledger of processes, in order, are a run of them
abbrev pub LedgerIsRun : Type 0
LedgerIsRun =
    (ps : List Proc) (rows : ℕ) (l : Ledger) (commits : List Commit) → IsLawful l → IsLedgerOf ps l → l.rows ≤ rows →
    IsOrderOf l commits → IsRun ps rows commits

-- WHAT A LEDGER TELLS OF ITS END is so where its commits lead

-- the results of a thread's first rows are the first that the commits gave it
abbrev pub TellsResults : List Proc → Ledger → List Commit → Type 0
TellsResults ps l commits = (t : ℕ) (results : List Chosen) → AreResults l t results → results ≡ take (length results) (config_of commits t)

-- a nack was fired where the ledger calls it enabled, and by the commit of that stamp
abbrev pub fired_as : NackState → Option ℕ
fired_as Unbound = None
fired_as Unsettled = None
fired_as Dead = None
fired_as (Enabled stamp) = Some stamp

abbrev pub TellsNacks : List Proc → Ledger → List Commit → Type 0
TellsNacks ps l commits = (n : NackName) (state : NackState) → TellsNack l n state → KnowsNack ps n.thread (config_of commits n.thread) commits n.k (fired_as state)

-- the last stamp of a thread that has started is the greatest that counts for what it does next
abbrev pub TellsStamps : List Proc → Ledger → List Commit → Type 0
TellsStamps ps l commits = (t start stamp : ℕ) → HasStart (course_in l t) start → IsLastStamp l t stamp → IsGreatest commits (CountsOf ps (config_of commits) t) stamp

-- and it has started in the run
abbrev pub TellsStarts : List Proc → Ledger → List Commit → Type 0
TellsStarts ps l commits = (t start : ℕ) → HasStart (course_in l t) start → Starts ps (config_of commits) t

-- so it is with each lawful ledger of processes
abbrev pub LedgersTell : (List Proc → Ledger → List Commit → Type 0) → Type 0
LedgersTell Tells =
    (ps : List Proc) (rows : ℕ) (l : Ledger) (commits : List Commit) → IsLawful l → IsLedgerOf ps l → l.rows ≤ rows →
    IsOrderOf l commits → Tells ps l commits

-- SCHEDULES

-- the processes that texts spawn wait at the start
abbrev pub SpawnedWait : List Proc → ℕ → ℕ → Type 0
SpawnedWait ps threads later = (t : ℕ) → t < threads → waits later t ≡ false → IsFirst ps t

-- however the steps of a schedule fall, where each row is opened as its process offers there, and threads are started and ended where
-- their processes are, its ledger is one of them
abbrev pub ScheduleHasLedger : Type 0
ScheduleHasLedger =
    (ps : List Proc) (threads rows seats later : ℕ) (steps : List (Seat × Step)) (w : World) → threads ≤ 64 → rows ≤ 1024 → SpawnedWait ps threads later →
    Plays (start_world threads rows seats later) steps w → EachStepsAs (acts_of ps) (start_world threads rows seats later) steps → IsLedgerOf ps (ledger_of w.table)

-- so its commits in order are a run of them
abbrev pub ScheduleIsRun : Type 0
ScheduleIsRun =
    (ps : List Proc) (threads rows seats later : ℕ) (steps : List (Seat × Step)) (w : World) (commits : List Commit) → threads ≤ 64 → rows ≤ 1024 → SpawnedWait ps threads later →
    Plays (start_world threads rows seats later) steps w → EachStepsAs (acts_of ps) (start_world threads rows seats later) steps →
    IsOrderOf (ledger_of w.table) commits → IsRun ps rows commits
