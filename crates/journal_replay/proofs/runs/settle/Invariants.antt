use Rattle.std.proofs.Common.{◌≡◌, ℕ, ◌++◌, List}
use Rattle.script_tree.specs.Processes.{Proc}
use Rattle.protocol_values.specs.declared.Commit.{Commit}
use Rattle.journal_replay.specs.Lines.{trees_of}
use Rattle.journal_replay.specs.Reaching.{AreAfter, IsReached}
use Rattle.journal_replay.specs.Searching.{Covers}
use Rattle.journal_replay.proofs.Replaying.{left}
use Rattle.journal_replay.proofs.runs.settle.Given as goal

abbrev pub invariant-loop-commit : goal.invariant-loop-commit
invariant-loop-commit l = record {
  reached : IsReached l.threads;
  covers : Covers l.threads.strands.items l.threads.rows l.open_offers;
  trees : trees_of l.threads.strands.items ≡ trees_of l.fn.state.threads.strands.items;
  run : (ps : List Proc) (rows : ℕ) (journal : List Commit) → AreAfter ps rows journal l.fn.state.threads → AreAfter ps rows (journal ++ l.added.items) l.threads;
}

abbrev pub decreases-loop-commit : goal.decreases-loop-commit
decreases-loop-commit l = left l.threads
