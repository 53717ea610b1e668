-- What a replay remembers, and when that is true of a run.
use Rattle.std.specs.Prelude.{◌≡◌, ◌≢◌, ℕ, ◌+◌, ◌<◌, ◌≤◌, if◌then◌else◌, max, List, [], ◌∷◌, length, true, false, Bool, Contains, Option, Some, None, option_and_then, slice_get, slice_index_or, slice_set}
use Rattle.script_tree.specs.Processes.{Proc}
use Rattle.script_tree.specs.Spawning.{has_bit, spawner}
use Rattle.script_tree.specs.Trees.{block_of}
use Rattle.thread.specs.After.{Chosen}
use Rattle.thread.specs.Machines.{Thread, HasStopped, IsAfter, Tells}
use Rattle.protocol_values.specs.declared.Base.{Base}
use Rattle.protocol_values.specs.declared.Base.TheVariants.{Send, Recv, Always, OnNack, OnEnd}
use Rattle.protocol_values.specs.declared.Cause.{Cause}
use Rattle.protocol_values.specs.declared.Cause.TheVariants as cause
use Rattle.protocol_values.specs.declared.Commit.{Commit}
use Rattle.protocol_values.specs.declared.Commit.TheVariants.{Pair, Alone}
use Rattle.protocol_values.specs.declared.NackName.{NackName}
use Rattle.protocol_values.specs.declared.Offer.{Offer}
use Rattle.protocol_values.specs.declared.Row.{Row}
use Rattle.protocol_values.specs.declared.RowResult.{RowResult}
use Rattle.protocol_values.specs.Commits.{gives, stamp_of}
use Rattle.thread_strand.specs.declared.strand.Strand.{Strand}
use Rattle.thread_strand.specs.Strands.{Grows, end_stamp, next_offer, stamp_from}
use Rattle.journal_replay.specs.declared.threads.Threads.{Threads}
use Rattle.journal_replay.specs.Runs.{Config, CountsOf, FiredAt, HasThread, HasRow, IsGreatest, Starts, config_of}

-- WHAT IS TRUE OF A THREAD

-- the machine stands where its process stands after these results
pub record MachineStands (ps : List Proc) (t : ℕ) (results : List Chosen) (m : Thread) : Type 0 where
  pub process : Proc
  pub is_its : slice_get ps t ≡ Some process
  pub body : block_of m.body ≡ process.body
  pub variables : m.variables ≡ length process.variables
  pub thread : m.thread ≡ t
  pub given : m.results ≡ results
  pub stopped : HasStopped m.phase
  pub after : IsAfter m

-- the commit that fired nack k of a thread with these results
abbrev pub FiresOf : List Proc → ℕ → List Chosen → ℕ → Commit → Type 0
FiresOf ps t results k d = (g : ℕ) × FiredAt ps t results k g × HasRow d t g

-- what is remembered of a nack: nothing where it is not fired, else the stamp of the commit that fired it
abbrev pub KnowsNack : List Proc → ℕ → List Chosen → List Commit → ℕ → Option ℕ → Type 0
KnowsNack ps t results earlier k None = (g : ℕ) → FiredAt ps t results k g → ⊥
KnowsNack ps t results earlier k (Some stamp) =
    ((g : ℕ) × FiredAt ps t results k g) × IsGreatest earlier (FiresOf ps t results k) stamp

-- A strand that is marked as started has started, and remembers the greatest stamp that counts for what its thread does next;
-- of another no commit is.
pub record StrandStands (ps : List Proc) (config : Config) (t : ℕ) (earlier : List Commit) (s : Strand) : Type 0 where
  pub machine : MachineStands ps t (config t) s.machine
  pub turn : Tells s.turn s.machine.phase
  pub spawner : s.spawner ≡ spawner ps t
  pub free : s.spawner ≡ None → s.started ≡ true
  pub started : s.started ≡ true → Starts ps config t
  pub idle : s.started ≡ false → (config t ≡ []) × ((d : Commit) → Contains earlier d → HasThread d t → ⊥)
  pub last : s.started ≡ true → IsGreatest earlier (CountsOf ps config t) s.last
  pub fired : (k : ℕ) → KnowsNack ps t (config t) earlier k (slice_index_or s.fired k None)

-- these commits made these results: each row of theirs is a sync that was made
abbrev pub AreMade : Config → List Commit → Type 0
AreMade config earlier = (d : Commit) (t : ℕ) → Contains earlier d → HasThread d t → (g : ℕ) × (g < length (config t)) × HasRow d t g

-- the threads stand in a configuration, but that more may have started than are marked
pub record StandsIn (ps : List Proc) (config : Config) (journal : List Commit) (strands : List Strand) : Type 0 where
  pub count : length strands ≡ length ps
  pub each : (t : ℕ) (s : Strand) → slice_get strands t ≡ Some s → StrandStands ps config t journal s
  pub made : AreMade config journal

-- the threads stand where these commits lead, and each that has started is marked
pub record Stands (ps : List Proc) (journal : List Commit) (strands : List Strand) : Type 0 where
  pub stands : StandsIn ps (config_of journal) journal strands
  pub marked : (t : ℕ) (s : Strand) → slice_get strands t ≡ Some s → Starts ps (config_of journal) t → s.started ≡ true

-- WHAT THE CALLS FIND AND DO

abbrev pub offer_in : List Strand → ℕ → Row × ℕ → Option Offer
offer_in strands rows at = option_and_then (next_offer rows at) (slice_get strands at.0.thread)

abbrev pub last_of : Option Strand → ℕ
last_of None = 0
last_of (Some s) = s.last

abbrev pub last_in : List Strand → ℕ → ℕ
last_in strands t = last_of (slice_get strands t)

abbrev pub fired_in : List Strand → NackName → Option ℕ
fired_in strands n = option_and_then (λ s. slice_index_or s.fired n.k None) (slice_get strands n.thread)

abbrev pub ended_in : List Strand → ℕ → Option ℕ
ended_in strands t = option_and_then end_stamp (slice_get strands t)

pub record Finds (strands : List Strand) (rows : ℕ) (at : Row × ℕ) (b : Base) : Type 0 where
  pub offer : Offer
  pub is : offer_in strands rows at ≡ Some offer
  pub base : offer.base ≡ b

abbrev pub base_for : Cause → Base
base_for (cause.Always m) = Always m
base_for (cause.Nack n) = OnNack n
base_for (cause.End t) = OnEnd t

-- the stamp that counts for a commit alone, and whether its cause is there
abbrev pub CauseIsAt : List Strand → ℕ → Cause → ℕ → Type 0
CauseIsAt strands last (cause.Always m) below = below ≡ last
CauseIsAt strands last (cause.Nack n) below = (fired : ℕ) × (fired_in strands n ≡ Some fired) × (below ≡ max last fired)
CauseIsAt strands last (cause.End t) below = (ended : ℕ) × (ended_in strands t ≡ Some ended) × (below ≡ max last ended)

-- the commit may come next, with a stamp of one more than this
abbrev pub MayFollow : List Strand → ℕ → Commit → ℕ → Type 0
MayFollow strands rows (Pair sender receiver chan msg stamp) below =
    (sender.0.thread ≢ receiver.0.thread) × Finds strands rows sender (Send chan msg) × Finds strands rows receiver (Recv chan)
    × (below ≡ max (last_in strands sender.0.thread) (last_in strands receiver.0.thread))
MayFollow strands rows (Alone at why stamp) below =
    Finds strands rows at (base_for why) × CauseIsAt strands (last_in strands at.0.thread) why below

-- the commit may come next, and its stamp is right
pub record MayBe (strands : List Strand) (rows : ℕ) (c : Commit) : Type 0 where
  pub below : ℕ
  pub may : MayFollow strands rows c below
  pub stamp : stamp_of c ≡ below + 1

-- thread t, and no other, grew by this result at this stamp
pub record OneGrows (t : ℕ) (chosen : Chosen) (stamp : ℕ) (old new : List Strand) : Type 0 where
  pub before : Strand
  pub behind : Strand
  pub was : slice_get old t ≡ Some before
  pub grows : Grows chosen stamp before behind
  pub is : new ≡ slice_set old t behind

-- the threads of a commit took their results
abbrev pub TakesOne : ℕ → RowResult → List Strand → List Strand → Type 0
TakesOne stamp r old new = OneGrows r.at.0.thread (r.at.1, r.message) stamp old new

abbrev pub TakesEach : ℕ → RowResult × Option RowResult → List Strand → List Strand → Type 0
TakesEach stamp (first, None) old new = TakesOne stamp first old new
TakesEach stamp (first, Some second) old new = (middle : List Strand) × TakesOne stamp first old middle × TakesOne stamp second middle new

abbrev pub Takes : Commit → List Strand → List Strand → Type 0
Takes c old new = TakesEach (stamp_of c) (gives c) old new

abbrev pub stamp_of_start : List Strand → ℕ → Strand → Option ℕ
stamp_of_start strands t s = if s.started then None else option_and_then (λ from. stamp_from t (slice_get strands from)) s.spawner

-- the stamp with which a thread starts now: the last of the thread that has spawned it
abbrev pub start_stamp : List Strand → ℕ → Option ℕ
start_stamp strands t = option_and_then (stamp_of_start strands t) (slice_get strands t)

-- thread t starts
pub record OneStarts (t : ℕ) (old new : List Strand) : Type 0 where
  pub before : Strand
  pub was : slice_get old t ≡ Some before
  pub stamp : ℕ
  pub due : start_stamp old t ≡ Some stamp
  pub is : new ≡ slice_set old t (record before { started = true; last = stamp })

abbrev pub TriesStart : ℕ → List Strand → List Strand → Bool → Type 0
TriesStart t old new true = OneStarts t old new
TriesStart t old new false = (start_stamp old t ≡ None) × (new ≡ old)

-- some threads start, one after another
pub data SomeStart : List Strand → List Strand → Type 0 where
  NoneStarts : {old : List Strand} → SomeStart old old
  Start : {old middle new : List Strand} (t : ℕ) (first : SomeStart old middle) (last : OneStarts t middle new) → SomeStart old new

-- no thread is left that could start
abbrev pub AllStarted : List Strand → Type 0
AllStarted strands = (t : ℕ) → start_stamp strands t ≡ None

-- all that could start did
pub record Wakes (old new : List Strand) : Type 0 where
  pub some : SomeStart old new
  pub all : AllStarted new

-- There are as many threads as a script can have. What spawns one stands behind it; and where no text spawns a process,
-- nothing does.
pub record IsOrdered (s : Threads) : Type 0 where
  pub few : length s.strands.items ≤ 64
  pub placed : (t from : ℕ) (x : Strand) → slice_get s.strands.items t ≡ Some x → x.spawner ≡ Some from → t < from
  pub later : s.later ≡ false → (t : ℕ) (x : Strand) → slice_get s.strands.items t ≡ Some x → x.spawner ≡ None

-- the threads of the commit took their results, and all started that could
abbrev pub Commits : Commit → List Strand → List Strand → Type 0
Commits c old new = (taken : List Strand) × Takes c old taken × Wakes taken new

-- WHO SPAWNS A PROCESS, by masks of what each spawns

-- the first mask, from number s on, with this bit
abbrev pub first_with : ℕ → ℕ → List ℕ → Option ℕ
first_with t s [] = None
first_with t s (mask ∷ masks) = if has_bit mask t then Some s else first_with t (s + 1) masks

-- for each process the first whose text spawns it
pub record AreSpawners (ps : List Proc) (all : List (Option ℕ)) : Type 0 where
  pub count : length all ≡ length ps
  pub each : (t : ℕ) (o : Option ℕ) → slice_get all t ≡ Some o → o ≡ spawner ps t
