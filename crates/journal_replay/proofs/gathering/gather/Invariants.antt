use Rattle.std.proofs.Common.{◌≡◌, map}
use Rattle.script_tree.specs.Processes.{proc_of, tree_of}
use Rattle.journal_replay.specs.Lines.{RunTheirs, trees_of}
use Rattle.journal_replay.proofs.Gathered.{Gathering}
use Rattle.journal_replay.proofs.gathering.gather.Given as goal

abbrev pub invariant-loop-index : goal.invariant-loop-index
invariant-loop-index l = record {
  gathering : Gathering (map proc_of l.processes) l.rows l.commits l.index l.threads;
  trees : RunTheirs (map tree_of l.processes) l.fn.known.items → trees_of l.threads.strands.items ≡ map tree_of l.processes;
}
