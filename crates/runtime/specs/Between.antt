-- Between two seasons: with which results the machines of a table catch up, and where the next table begins.
use Rattle.std.specs.Prelude.{◌≡◌, ◌⊎◌, ◌+◌, ◌<◌, ◌≤◌, ℕ, List, [], ◌∷◌, ◌++◌, Option, None, Some, length, min, slice_get, slice_index_or, slice_set}
use Rattle.protocol_values.specs.declared.Commit.{Commit}
use Rattle.protocol_values.specs.declared.Commit.TheVariants.{Pair, Alone}
use Rattle.protocol_values.specs.declared.Message.{Message}
use Rattle.protocol_values.specs.declared.Row.{Row}
use Rattle.protocol_values.specs.declared.RowResult.{RowResult}
use Rattle.protocol_values.specs.Commits.{gives}
use Rattle.script_tree.specs.Processes.{Proc}
use Rattle.thread.specs.After.{Chosen}
use Rattle.thread.specs.Machines.{HasStopped, IsAfter, IsOpen, SameProcess, StartsAs, Thread}
use Rattle.thread.specs.Memories.{AddsNew}
use Rattle.thread.specs.Ranges.{MessageIsIn}
use Rattle.protocol_ledger.specs.declared.opening.Life.{Life}
use Rattle.protocol_ledger.specs.declared.opening.Life.TheVariants.{Unstarted, Running, Ended}
use Rattle.protocol_ledger.specs.Ledgers.{HasCommit, Involves, Ledger}
use Rattle.protocol_values.specs.Commits.{Gives}
use Rattle.runtime_worker.specs.declared.resident.Suspended.{Suspended}
use Rattle.runtime_worker.specs.Machines.{AreFirst}
use Rattle.runtime_run.specs.Machines.{AreLeftBy}

-- THE RUN'S NUMBERS of syncs: behind those that the thread made in earlier seasons

-- how many results each thread had before the table, of which these are the first machines
abbrev pub had_by : List ℕ → ℕ → ℕ
had_by had t = slice_index_or had t 0

abbrev pub count_in : Option Suspended → ℕ
count_in None = 0
count_in (Some s) = length s.machine.value.results

abbrev pub AreHad : List (Option Suspended) → List ℕ → Type 0
AreHad first had = (t : ℕ) (start : Suspended) → slice_get first t ≡ Some (Some start) → had_by had t ≡ length start.machine.value.results

-- a number that has no room stops at the last one there is
abbrev pub numbered : List ℕ → Row × ℕ → Row × ℕ
numbered had at = (record { thread = at.0.thread; sync = min (had_by had at.0.thread + at.0.sync) 4294967295 }, at.1)

abbrev pub renumbered : List ℕ → Commit → Commit
renumbered had (Pair sender receiver chan msg stamp) = Pair (numbered had sender) (numbered had receiver) chan msg stamp
renumbered had (Alone at why stamp) = Alone (numbered had at) why stamp

-- MACHINES THAT CATCH UP

-- the machine went on by this result
pub record GoesOnBy (chosen : Chosen) (old new : Thread) : Type 0 where
  pub process : SameProcess old new
  pub results : new.results ≡ old.results ++ chosen ∷ []
  pub stopped : HasStopped new.phase
  pub after : IsAfter new
  pub spawned : AddsNew old.spawned new.spawned

-- it has the result of sync g of the table, before which its thread had so many: it had it, or it was the next one and it went on by it
abbrev pub CatchesUp : ℕ → ℕ → Chosen → Thread → Thread → Type 0
CatchesUp had g chosen old new = (had + g < length new.results) × ((new ≡ old) ⊎ ((had + g ≡ length old.results) × GoesOnBy chosen old new))

-- the machine at the place of the row's thread, and no other, catches up with the row
pub record CatchesUpAt (had : List ℕ) (at : Row × ℕ) (message : Message) (old new : List (Option Thread)) : Type 0 where
  pub before : Thread
  pub behind : Thread
  pub was : slice_get old at.0.thread ≡ Some (Some before)
  pub catches : CatchesUp (had_by had at.0.thread) at.0.sync (at.1, message) before behind
  pub is : new ≡ slice_set old at.0.thread (Some behind)

-- with each row of a commit
abbrev pub CatchesUpEach : List ℕ → RowResult × Option RowResult → List (Option Thread) → List (Option Thread) → Type 0
CatchesUpEach had (first, None) old new = CatchesUpAt had first.at first.message old new
CatchesUpEach had (first, Some second) old new =
    (middle : List (Option Thread)) × CatchesUpAt had first.at first.message old middle × CatchesUpAt had second.at second.message middle new

abbrev pub CatchesUpWith : List ℕ → Commit → List (Option Thread) → List (Option Thread) → Type 0
CatchesUpWith had c old new = CatchesUpEach had (gives c) old new

-- each row of the commit has a machine with its result
abbrev pub HasResults : List ℕ → List (Option Thread) → Commit → Type 0
HasResults had machines c =
    (t g : ℕ) → Involves c (record { thread = t; sync = g }) → (m : Thread) × (slice_get machines t ≡ Some (Some m)) × (had_by had t + g < length m.results)

-- words have room for what the commits of the ledger give
abbrev pub GiveInRange : Ledger → Type 0
GiveInRange l = (c : Commit) (r : Row) (chosen : Chosen) → HasCommit l c → Gives c r chosen → MessageIsIn chosen.1

-- Whichever ledger of a table they are of that left these machines: the machines stand over it still, and have these results.
abbrev pub CatchesUpAll : List ℕ → List Commit → List (Option Thread) → List (Option Thread) → Type 0
CatchesUpAll had commits old new =
    (ps : List Proc) (first : List (Option Suspended)) (l : Ledger) → AreFirst ps first → AreHad first had → GiveInRange l → ((k : ℕ) (c : Commit) → slice_get commits k ≡ Some c → HasCommit l c) → AreLeftBy first l old
    → AreLeftBy first l new × ((k : ℕ) (c : Commit) → slice_get commits k ≡ Some c → HasResults had new c)

-- WHO WANTS A FURTHER SEASON

-- the machine stands at a sync, and has as many results behind those that its thread had before as the table has rows
abbrev pub IsSpent : Thread → ℕ → ℕ → Type 0
IsSpent m before rows = IsOpen m.phase × (before + rows ≤ length m.results)

-- there is a machine, and it does
abbrev pub HasSpent : Option Thread → ℕ → ℕ → Type 0
HasSpent place before rows = (m : Thread) × (place ≡ Some m) × IsSpent m before rows

-- some thread's machine does
abbrev pub SomeIsSpent : List ℕ → ℕ → List (Option Thread) → Type 0
SomeIsSpent had rows machines = (t : ℕ) × (m : Thread) × (slice_get machines t ≡ Some (Some m)) × IsSpent m (had_by had t) rows

-- WHERE THE NEXT SEASON BEGINS

-- By a thread's life as the ledger tells it: who has ended has no machine there, who waits a new one, and who runs the one that is left, at
-- its open sync; where that has come to its end by its last result, the thread has ended. What is left of who has ended is kept.
abbrev pub GoesOnFrom : Proc → ℕ → Life × ℕ → Option Thread → Life × ℕ → Option Suspended → Option Thread → Type 0
GoesOnFrom process t (Unstarted, stamp) m life first ended = (life ≡ (Unstarted, stamp)) × ((s : Suspended) × (first ≡ Some s) × StartsAs process t s.machine.value) × (ended ≡ None)
GoesOnFrom process t (Running, stamp) m life first ended =
    ((life ≡ (Running, stamp)) × ((s : Suspended) × (first ≡ Some s) × (m ≡ Some s.machine.value) × IsOpen s.machine.value.phase) × (ended ≡ None))
    ⊎ ((life ≡ (Ended, stamp)) × (first ≡ None) × ((x : Thread) × (m ≡ Some x) × (¬ IsOpen x.phase)) × (ended ≡ m))
GoesOnFrom process t (Ended, stamp) m life first ended = (life ≡ (Ended, stamp)) × (first ≡ None) × (ended ≡ m)

-- so of each thread below this one
pub record GoOnBelow (ps : List Proc) (lives : List (Life × ℕ)) (machines : List (Option Thread)) (n : ℕ) (next : List (Life × ℕ)) (first : List (Option Suspended)) (ended : List (Option Thread)) : Type 0 where
  pub lives_are : length next ≡ n
  pub machines_are : length first ≡ n
  pub ended_are : length ended ≡ n
  pub each : (t : ℕ) → t < n → (process : Proc) × (life : Life × ℕ) × (m : Option Thread) × (after : Life × ℕ) × (s : Option Suspended)
      × (slice_get ps t ≡ Some process) × (slice_get lives t ≡ Some life) × (slice_get machines t ≡ Some m) × (slice_get next t ≡ Some after) × (slice_get first t ≡ Some s)
      × (e : Option Thread) × (slice_get ended t ≡ Some e) × GoesOnFrom process t life m after s e

-- there is no machine at any place
abbrev pub HasNone : List (Option Thread) → Type 0
HasNone machines = (t : ℕ) (m : Thread) → slice_get machines t ≡ Some (Some m) → ⊥

-- the machine was put at the thread's place, or nothing was done
abbrev pub KeepsAt : ℕ → Option Thread → List (Option Thread) → List (Option Thread) → Type 0
KeepsAt t m old new = (new ≡ old) ⊎ ((t < length old) × (new ≡ slice_set old t m))

-- at each place there is what was kept, or one of these machines
pub record AreKept (old machines new : List (Option Thread)) : Type 0 where
  pub count : length new ≡ length old
  pub each : (t : ℕ) (m : Thread) → slice_get new t ≡ Some (Some m) → (slice_get old t ≡ Some (Some m)) ⊎ (slice_get machines t ≡ Some (Some m))
