-- At which line of its text each process of a run stands.
use Rattle.std.specs.Prelude.{◌≡◌, ◌⊎◌, ℕ, List, length, map, IfSome, Some, slice_get}
use Rattle.script_tree.specs.Processes.{Proc}
use Rattle.script_tree.specs.Trees as plain
use Rattle.script_tree.specs.declared.tree.Block.{Block as Tree}
use Rattle.thread.specs.Standing.{line_after}
use Rattle.protocol_values.specs.declared.Commit.{Commit}
use Rattle.journal_replay.specs.Replays.{StandsAfter}
use Rattle.journal_replay.specs.Runs.{Config, Starts, config_of}
use Rattle.journal_replay.specs.declared.state.State.{State}
use Rattle.thread_strand.specs.declared.strand.Known.{Known}
use Rattle.thread_strand.specs.declared.strand.Strand.{Strand}

-- the trees that threads run, with their lines
abbrev pub trees_of : List Strand → List Tree
trees_of strands = map (λ s. s.machine.body) strands

abbrev pub trees_in : State → List Tree
trees_in s = trees_of s.threads.strands.items

-- what is known of a thread's machine: it runs the tree at the thread's place
abbrev pub RunTheirs : List Tree → List Known → Type 0
RunTheirs trees known = (t : ℕ) (k : Known) → slice_get known t ≡ Some k → IfSome k.machine (λ m. slice_get trees t ≡ Some m.body)

-- the line at which the process with this tree stands after the results that it has: of the sync whose event it offers, or of the
-- statement that failed; 0 where it came to its end, or has not started
pub record StandsAtLine (ps : List Proc) (trees : List Tree) (t : ℕ) (config : Config) (line : ℕ) : Type 0 where
  pub process : Proc
  pub is_its : slice_get ps t ≡ Some process
  pub tree : Tree
  pub written : slice_get trees t ≡ Some tree
  pub same : plain.block_of tree ≡ process.body
  pub stands :
      (Starts ps config t × (line ≡ line_after tree (length process.variables) t (config t)))
      ⊎ ((Starts ps config t → ⊥) × (line ≡ 0))

-- what a state says of a thread's line
abbrev pub TellsLine : State → ℕ → ℕ → Type 0
TellsLine s t line =
    (ps : List Proc) (rows : ℕ) (journal : List Commit) → StandsAfter ps rows journal s → StandsAtLine ps (trees_in s) t (config_of journal) line
