use Rattle.std.proofs.Common.{◌≡◌, ◌++◌, length, map}
use Rattle.script_tree.specs.Processes.{proc_of, tree_of}
use Rattle.journal.specs.Concluding.{RunTrees}
use Rattle.runtime_run.specs.Machines.{machine_in}
use Rattle.runtime.specs.Between.{GoOnBelow}
use Rattle.runtime.proofs.between.go_on_all.Given as goal

abbrev pub invariant-loop-machine : goal.invariant-loop-machine
invariant-loop-machine l = record {
  whole : l.fn.machines.items ≡ l.yielded ++ l.machine-iterator.rest.items;
  trees : RunTrees (map tree_of l.processes) l.fn.machines.items → RunTrees (map tree_of l.processes) (map machine_in l.first.items) × RunTrees (map tree_of l.processes) l.ended.items;
  goes : GoOnBelow (map proc_of l.processes) l.lives l.fn.machines.items (length l.yielded) l.threads.items l.first.items l.ended.items;
}
