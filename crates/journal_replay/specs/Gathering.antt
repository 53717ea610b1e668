-- Threads gathered of machines that have gone part of a run.
use Rattle.std.specs.Prelude.{◌≡◌, ◌≢◌, ◌⊎◌, ◌<◌, ◌≤◌, ℕ, Bool, true, false, List, Contains, IfSome, Option, Some, None, length, not, slice_get, slice_index_or, slice_set, take}
use Rattle.script_tree.specs.Processes.{Proc}
use Rattle.script_tree.specs.Spawning.{spawner}
use Rattle.thread.specs.After.{Chosen}
use Rattle.thread.specs.Machines.{Thread, offers_in}
use Rattle.protocol_values.specs.declared.Commit.{Commit}
use Rattle.protocol_values.specs.declared.Commit.TheVariants.{Pair, Alone}
use Rattle.protocol_values.specs.declared.Row.{Row}
use Rattle.protocol_values.specs.declared.RowResult.{RowResult}
use Rattle.protocol_values.specs.Commits.{gives, most_rows}
use Rattle.thread_strand.specs.declared.strand.Known.{Known}
use Rattle.thread_strand.specs.declared.strand.Strand.{Strand}
use Rattle.thread_strand.specs.Strands.{Gathers, GoesOn}
use Rattle.journal_replay.specs.declared.threads.Threads.{Threads}
use Rattle.journal_replay.specs.Runs.{CountsOf, HasThread, IsGreatest, Starts, config_of}
use Rattle.journal_replay.specs.Standing.{KnowsNack, MachineStands}
use Rattle.journal_replay.specs.Starting.{HasSpawned}

-- WHAT IS KNOWN OF A THREAD where commits lead

-- The machine stands after some of the thread's first results, and has spawned what its process has after fewer of them.
pub record HasGone (ps : List Proc) (t : ℕ) (results : List Chosen) (m : Thread) : Type 0 where
  pub stands : MachineStands ps t m.results m
  pub part : m.results ≡ take (length m.results) results
  pub told : (n u : ℕ) → n ≤ length m.results → HasSpawned ps t (take n m.results) u → Contains m.spawned u

-- the stamp is the greatest that counts for what the thread does next; where there is none no commit is of the thread
abbrev pub KnowsLast : List Proc → List Commit → ℕ → Option ℕ → Type 0
KnowsLast ps commits t None = (d : Commit) → Contains commits d → HasThread d t → ⊥
KnowsLast ps commits t (Some stamp) = Starts ps (config_of commits) t × IsGreatest commits (CountsOf ps (config_of commits) t) stamp

pub record IsKnown (ps : List Proc) (commits : List Commit) (t : ℕ) (k : Known) : Type 0 where
  pub machine : IfSome k.machine (HasGone ps t (config_of commits t))
  pub last : KnowsLast ps commits t k.last
  pub fired : (n : ℕ) → KnowsNack ps t (config_of commits t) commits n (slice_index_or k.fired n None)

-- so of each thread
pub record AreKnown (ps : List Proc) (commits : List Commit) (known : List Known) : Type 0 where
  pub count : length known ≡ length ps
  pub each : (t : ℕ) (k : Known) → slice_get known t ≡ Some k → IsKnown ps commits t k

-- WHAT THE CALLS DO

-- so of each thread, in so many rows
pub record AreGathered (ps : List Proc) (rows : ℕ) (known : List Known) (s : Threads) : Type 0 where
  pub rows_are : s.rows ≡ rows
  pub low : rows ≤ most_rows
  pub later : s.later ≡ false → (t : ℕ) → t < length ps → spawner ps t ≡ None
  pub count : length s.strands.items ≡ length ps
  pub each : (t : ℕ) (x : Strand) → slice_get s.strands.items t ≡ Some x →
      (p : Proc) × (k : Known) × (slice_get ps t ≡ Some p) × (slice_get known t ≡ Some k) × Gathers p (spawner ps t) t k x

-- the thread is to be started yet
abbrev pub waits_if : Option Strand → Bool
waits_if None = false
waits_if (Some s) = not s.started

abbrev pub waits_in : List Strand → ℕ → Bool
waits_in strands t = waits_if (slice_get strands t)

-- the thread has started and has spawned one that has not
pub record IsEarly (strands : List Strand) (t : ℕ) : Type 0 where
  pub strand : Strand
  pub is_its : slice_get strands t ≡ Some strand
  pub started : strand.started ≡ true
  pub other : ℕ
  pub spawned : Contains strand.machine.spawned other
  pub waits : waits_in strands other ≡ true

-- thread t, and no other, went on by this result, which is of its next sync
pub record OneGoesOn (at : Row × ℕ) (chosen : Chosen) (old new : List Strand) : Type 0 where
  pub before : Strand
  pub behind : Strand
  pub was : slice_get old at.0.thread ≡ Some before
  pub next : at.0.sync ≡ length before.machine.results
  pub ready : ¬ IsEarly old at.0.thread
  pub goes : GoesOn chosen before behind
  pub is : new ≡ slice_set old at.0.thread behind

-- the row is not the next sync of its thread
abbrev pub IsHad : Row × ℕ → List Strand → Type 0
IsHad at strands = (s : Strand) → slice_get strands at.0.thread ≡ Some s → at.0.sync ≢ length s.machine.results

-- no row of the commit is
abbrev pub AreHad : Commit → List Strand → Type 0
AreHad (Pair sender receiver chan msg stamp) strands = IsHad sender strands × IsHad receiver strands
AreHad (Alone at why stamp) strands = IsHad at strands

-- the thread of the row was given its result, if that is the next; or it is early, and nothing was done
abbrev pub GivesRow : Row × ℕ → Chosen → List Strand → List Strand → Bool → Type 0
GivesRow at chosen old new true = (IsHad at old × (new ≡ old)) ⊎ OneGoesOn at chosen old new
GivesRow at chosen old new false = IsEarly old at.0.thread

-- where the row is the next sync of its thread, the thread offers something under this number
abbrev pub IsOpenFor : List Strand → Row × ℕ → Type 0
IsOpenFor strands at = (s : Strand) → slice_get strands at.0.thread ≡ Some s → at.0.sync ≡ length s.machine.results → at.1 < length (offers_in s.machine.phase)

abbrev pub CanGive : List Strand → Commit → Type 0
CanGive strands (Pair sender receiver chan msg stamp) = (sender.0.thread ≢ receiver.0.thread) × IsOpenFor strands sender × IsOpenFor strands receiver
CanGive strands (Alone at why stamp) = IsOpenFor strands at

-- the threads of a commit were given their results
abbrev pub GivesOne : RowResult → List Strand → List Strand → Bool → Type 0
GivesOne r old new = GivesRow r.at (r.at.1, r.message) old new

abbrev pub GivesEach : RowResult × Option RowResult → List Strand → List Strand → Type 0
GivesEach (first, None) old new = GivesOne first old new true
GivesEach (first, Some second) old new = (middle : List Strand) × GivesOne first old middle true × GivesOne second middle new true

abbrev pub GivesAll : Commit → List Strand → List Strand → Type 0
GivesAll c old new = GivesEach (gives c) old new
