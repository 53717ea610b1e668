use Rattle.std.proofs.Common.{◌≡◌, length, map}
use Rattle.script_tree.specs.Processes.{proc_of}
use Rattle.runtime_run.proofs.Rows.{AreEnoughBelow, AreFew, AreSome}
use Rattle.runtime_run.proofs.bound.rows_each.Given as goal

abbrev pub invariant-loop-thread : goal.invariant-loop-thread
invariant-loop-thread l = record {
  size : length l.rows ≡ 64;
  some : AreSome l.rows;
  few : AreFew l.stated l.rows;
  enough : AreEnoughBelow (map proc_of l.processes) l.had l.stated l.rows l.thread;
}
