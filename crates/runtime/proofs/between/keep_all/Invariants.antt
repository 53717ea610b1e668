use Rattle.std.proofs.Common.{◌≡◌, ◌++◌, length}
use Rattle.runtime.specs.Between.{AreKept}
use Rattle.runtime.proofs.between.keep_all.Given as goal

abbrev pub invariant-loop-machine : goal.invariant-loop-machine
invariant-loop-machine l = record {
  whole : l.fn.machines.items ≡ l.yielded ++ l.machine-iterator.rest.items;
  kept : AreKept l.fn.kept.items l.fn.machines.items l.kept.items;
  thread : l.thread ≡ length l.yielded;
}
