use Rattle.std.proofs.Common.{◌≡◌, map, take}
use Rattle.script_tree.specs.Processes.{proc_of, tree_of}
use Rattle.journal_replay.specs.Lines.{trees_of}
use Rattle.journal_replay.specs.Reaching.{AreAfter}
use Rattle.journal_replay.proofs.gathering.retrace.Given as goal

abbrev pub invariant-loop-index : goal.invariant-loop-index
invariant-loop-index l = record {
  after : AreAfter (map proc_of l.processes) l.rows (take l.index l.commits) l.threads;
  trees : trees_of l.threads.strands.items ≡ map tree_of l.processes;
}
