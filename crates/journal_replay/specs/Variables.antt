-- With which variables each process of a run stands.
use Rattle.std.specs.Prelude.{◌≡◌, ◌⊎◌, ℕ, List, [], length, Some, slice_get}
use Rattle.script_tree.specs.Processes.{Proc}
use Rattle.script_tree.specs.Trees as plain
use Rattle.script_tree.specs.declared.tree.Block.{Block as Tree}
use Rattle.thread.specs.Standing.{variables_after}
use Rattle.thread.specs.Values.{Store}
use Rattle.protocol_values.specs.declared.Commit.{Commit}
use Rattle.journal_replay.specs.Lines.{trees_in}
use Rattle.journal_replay.specs.Replays.{StandsAfter}
use Rattle.journal_replay.specs.Runs.{Config, Starts, config_of}
use Rattle.journal_replay.specs.declared.state.State.{State}

-- The variables of the process with this tree after the results that it has, where it offers an event, ends or fails. There are
-- none where it has not started.
pub record StandsWith (ps : List Proc) (trees : List Tree) (t : ℕ) (config : Config) (variables : Store) : Type 0 where
  pub process : Proc
  pub is_its : slice_get ps t ≡ Some process
  pub tree : Tree
  pub written : slice_get trees t ≡ Some tree
  pub same : plain.block_of tree ≡ process.body
  pub stands :
      (Starts ps config t × (variables ≡ variables_after tree (length process.variables) t (config t)))
      ⊎ ((Starts ps config t → ⊥) × (variables ≡ []))

-- what a state says of a thread's variables
abbrev pub TellsVariables : State → ℕ → Store → Type 0
TellsVariables s t variables =
    (ps : List Proc) (rows : ℕ) (journal : List Commit) → StandsAfter ps rows journal s → StandsWith ps (trees_in s) t (config_of journal) variables
