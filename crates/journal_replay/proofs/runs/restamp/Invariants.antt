use Rattle.std.proofs.Common.{map, take}
use Rattle.script_tree.specs.Processes.{proc_of}
use Rattle.journal_replay.specs.Reaching.{AreAfter}
use Rattle.journal_replay.specs.Stamping.{AreRestamped}
use Rattle.journal_replay.proofs.runs.restamp.Given as goal

abbrev pub invariant-loop-index : goal.invariant-loop-index
invariant-loop-index l = record {
  stands : AreAfter (map proc_of l.processes) l.rows l.run.items l.threads;
  same : AreRestamped (take l.index l.commits) l.run.items;
}
