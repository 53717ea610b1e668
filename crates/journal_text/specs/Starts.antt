-- Which processes have started, told without whose text spawns them.
use Rattle.std.specs.Prelude.{◌≡◌, ◌⊎◌, ℕ, ◌≤◌, false, List, length, take, Some, slice_get}
use Rattle.script_tree.specs.Processes.{Proc}
use Rattle.script_tree.specs.Spawning.{spawner, spawns_block}
use Rattle.script.specs.Sources.{Script, IsScript}
use Rattle.thread.specs.After.{Chosen}
use Rattle.protocol_values.specs.declared.Atom.{Atom}
use Rattle.journal_replay.specs.Starting.{Config, HasSpawned, Starts}
use Rattle.journal_replay.specs.Runs.{EndsAs}
use Rattle.thread.specs.declared.end.End.{End}
use Rattle.thread.specs.declared.end.End.TheVariants as ends

-- no text spawns the process
abbrev pub NoTextSpawns : List Proc → ℕ → Type 0
NoTextSpawns ps t = (s : ℕ) (p : Proc) → slice_get ps s ≡ Some p → spawns_block t p.body ≡ false

-- what a process has spawned, by whatever results, its text spawns, and no text before it
abbrev pub TextSpawns : Type 0
TextSpawns =
    (s : Script) → IsScript s → (by : ℕ) (results : List Chosen) (t : ℕ) → HasSpawned s.processes by results t → spawner s.processes t ≡ Some by

-- a process that has started spawned it, by all of its results or by the first of them
pub record IsSpawned (ps : List Proc) (config : Config) (t : ℕ) : Type 0 where
  pub by : ℕ
  pub started : Starts ps config by
  pub count : ℕ
  pub within : count ≤ length (config by)
  pub spawned : HasSpawned ps by (take count (config by)) t

-- one that no text spawns has started, and else those have started that a started one spawned
abbrev pub StartsWhereSpawned : Type 0
StartsWhereSpawned =
    (s : Script) → IsScript s → (config : Config) (t : ℕ) →
    (Starts s.processes config t → NoTextSpawns s.processes t ⊎ IsSpawned s.processes config t)
    × (NoTextSpawns s.processes t ⊎ IsSpawned s.processes config t → Starts s.processes config t)

-- a process is told of as unstarted exactly where it has not started
abbrev pub UnstartedIsNotStarted : Type 0
UnstartedIsNotStarted =
    (ps : List Proc) (rows t : ℕ) (config : Config) (end : End) (printed : List Atom) → EndsAs ps rows t config end printed →
    (end ≡ ends.Unstarted → Starts ps config t → ⊥) × ((Starts ps config t → ⊥) → end ≡ ends.Unstarted)
