use Rattle.std.proofs.Common.{◌≡◌, ◌++◌}
use Rattle.runtime_run.specs.Workers.{AreParted}
use Rattle.runtime_run.proofs.workers.parted.Given as goal

abbrev pub invariant-loop-pass : goal.invariant-loop-pass
invariant-loop-pass l = record {
  whole : l.fn.left.items ≡ l.yielded ++ l.pass-iterator.rest.items;
  parted : AreParted l.yielded l.passes.items l.rests.items;
}
