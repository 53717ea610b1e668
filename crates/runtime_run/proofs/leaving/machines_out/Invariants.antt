use Rattle.std.proofs.Common.{◌≡◌, ◌++◌}
use Rattle.runtime_run.specs.Machines.{AreOut}
use Rattle.runtime_run.proofs.leaving.machines_out.Given as goal

abbrev pub invariant-loop-home : goal.invariant-loop-home
invariant-loop-home l = record {
  whole : l.fn.homes.items ≡ l.yielded ++ l.home-iterator.rest.items;
  out : AreOut l.yielded l.machines.items;
}
