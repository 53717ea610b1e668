-- Where a run leads its threads.
use Rattle.std.specs.Prelude.{◌≡◌, ◌<◌, ◌≤◌, ℕ, List, None, false, length}
use Rattle.script_tree.specs.Processes.{Proc}
use Rattle.script_tree.specs.Spawning.{IsPlaced, spawner}
use Rattle.protocol_values.specs.declared.Commit.{Commit}
use Rattle.journal_replay.specs.declared.threads.Threads.{Threads}
use Rattle.journal_replay.specs.Runs.{IsRun}
use Rattle.journal_replay.specs.Searching.{Bounded}
use Rattle.journal_replay.specs.Standing.{Stands}
use Rattle.protocol_values.specs.Commits.{most_rows}

-- the commits are a run of the processes in so many rows each, and the threads stand where they lead
pub record AreAfter (ps : List Proc) (rows : ℕ) (journal : List Commit) (s : Threads) : Type 0 where
  pub rows_are : s.rows ≡ rows
  pub few : length ps ≤ 64
  pub low : rows ≤ most_rows
  pub placed : IsPlaced ps
  pub later : s.later ≡ false → (t : ℕ) → t < length ps → spawner ps t ≡ None
  pub run : IsRun ps rows journal
  pub strands : Stands ps journal s.strands.items
  pub bounded : Bounded rows s.strands.items

-- the threads of a run of some processes, each of so many rows
abbrev pub IsReached : Threads → Type 0
IsReached s = ∥ ((ps : List Proc) × (rows : ℕ) × (journal : List Commit) × AreAfter ps rows journal s) ∥₁

pub IsReached-prop : (s : Threads) → IsProp (IsReached s)
IsReached-prop s = squash₁
