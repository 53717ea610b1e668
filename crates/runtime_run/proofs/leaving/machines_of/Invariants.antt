use Rattle.std.proofs.Common.{◌≡◌, ◌++◌}
use Rattle.runtime_run.specs.Machines.{AreLeft}
use Rattle.runtime_run.proofs.leaving.machines_of.Given as goal

abbrev pub invariant-loop-rest : goal.invariant-loop-rest
invariant-loop-rest l = record {
  whole : l.fn.rests.items ≡ l.yielded ++ l.rest-iterator.rest.items;
  left : AreLeft l.fn.homes.items l.yielded l.machines.items;
}
