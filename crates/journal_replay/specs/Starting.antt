-- Configurations, which threads have started, and which commits count for a start.
use Rattle.std.specs.Prelude.{◌≡◌, ◌⊎◌, ℕ, ◌<◌, ◌≤◌, List, [], length, take, Some, None, slice_get, Contains, ⊤}
use Rattle.script_tree.specs.Processes.{Proc}
use Rattle.script_tree.specs.Spawning.{spawner}
use Rattle.thread.specs.After.{Chosen, State, Outcome, Goes, Offers, Finishes, Fails, Strays, after}
use Rattle.protocol_values.specs.declared.Commit.{Commit}
use Rattle.protocol_values.specs.declared.Commit.TheVariants.{Pair, Alone}
use Rattle.protocol_values.specs.declared.Row.{Row}

-- A configuration has for each thread the results of its syncs, and nothing else.
abbrev pub Config : Type 0
Config = ℕ → List Chosen

abbrev pub no_results : Config
no_results t = []

abbrev pub HasThread : Commit → ℕ → Type 0
HasThread (Pair sender receiver chan msg stamp) t = (sender.0.thread ≡ t) ⊎ (receiver.0.thread ≡ t)
HasThread (Alone at why stamp) t = at.0.thread ≡ t

-- sync g of thread t is in the commit
abbrev pub IsRow : Row × ℕ → ℕ → ℕ → Type 0
IsRow at t g = (at.0.thread ≡ t) × (at.0.sync ≡ g)

abbrev pub HasRow : Commit → ℕ → ℕ → Type 0
HasRow (Pair sender receiver chan msg stamp) t g = IsRow sender t g ⊎ IsRow receiver t g
HasRow (Alone at why stamp) t g = IsRow at t g

-- ENDS

-- the process has ended, or stopped at a fault, with no result left
abbrev pub IsOver : Outcome State → Type 0
IsOver (Goes value) = ⊥
IsOver (Offers event said) = ⊥
IsOver (Finishes said []) = ⊤
IsOver (Finishes said left) = ⊥
IsOver (Fails fault said []) = ⊤
IsOver (Fails fault said left) = ⊥
IsOver Strays = ⊥

-- after these results the thread of this number has ended or faulted
pub record HasEnded (ps : List Proc) (t : ℕ) (results : List Chosen) : Type 0 where
  pub process : Proc
  pub is_its : slice_get ps t ≡ Some process
  pub over : IsOver (after process.body (length process.variables) t results)

-- STARTS

-- what a process has spawned
abbrev pub spawned_in : Outcome State → List ℕ
spawned_in (Goes value) = []
spawned_in (Offers event said) = said.spawned
spawned_in (Finishes said left) = said.spawned
spawned_in (Fails fault said left) = said.spawned
spawned_in Strays = []

-- after these results thread s has spawned process t
pub record HasSpawned (ps : List Proc) (s : ℕ) (results : List Chosen) (t : ℕ) : Type 0 where
  pub process : Proc
  pub is_its : slice_get ps s ≡ Some process
  pub spawned : Contains (spawned_in (after process.body (length process.variables) s results)) t

-- after the first n of these results, and after no fewer
pub record SpawnsAt (ps : List Proc) (s : ℕ) (results : List Chosen) (t n : ℕ) : Type 0 where
  pub within : n ≤ length results
  pub there : HasSpawned ps s (take n results) t
  pub first : (m : ℕ) → m < n → HasSpawned ps s (take m results) t → ⊥

-- a thread has started where no text spawns it, or where a thread that has started spawned it
pub data Starts (ps : List Proc) (config : Config) : ℕ → Type 0 where
  AtOnce : {t : ℕ} (none : spawner ps t ≡ None) → Starts ps config t
  Spawned : {t : ℕ} (s n : ℕ) (by : spawner ps t ≡ Some s) (at : SpawnsAt ps s (config s) t n) (started : Starts ps config s) → Starts ps config t

-- Commit d counts for the start of a thread: it is of a sync that the spawner had made by then, or it counts for the
-- spawner's own start.
pub data CountsForStart (ps : List Proc) (config : Config) (d : Commit) : ℕ → Type 0 where
  InRow : {t : ℕ} (s n g : ℕ) (by : spawner ps t ≡ Some s) (at : SpawnsAt ps s (config s) t n) (before : g < n) (row : HasRow d s g) → CountsForStart ps config d t
  InStart : {t : ℕ} (s : ℕ) (by : spawner ps t ≡ Some s) (counts : CountsForStart ps config d s) → CountsForStart ps config d t

-- for what a thread does next: it is of the thread, or counts for its start
abbrev pub CountsOf : List Proc → Config → ℕ → Commit → Type 0
CountsOf ps config t d = HasThread d t ⊎ CountsForStart ps config d t
