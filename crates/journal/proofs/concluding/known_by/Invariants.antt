use Rattle.std.proofs.Common.{◌≡◌, ◌++◌}
use Rattle.journal.specs.Concluding.{EachKnownBy}
use Rattle.journal.proofs.concluding.known_by.Given as goal

abbrev pub invariant-loop-machine : goal.invariant-loop-machine
invariant-loop-machine l = record {
  whole : l.fn.machines.items ≡ l.yielded ++ l.machine-iterator.rest.items;
  known : EachKnownBy l.opening.threads.items l.opening.nacks.items l.yielded l.known.items;
}
