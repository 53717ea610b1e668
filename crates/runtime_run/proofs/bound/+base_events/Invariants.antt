use Rattle.std.proofs.Common.{◌≡◌, ◌<◌, ◌+◌}
use Rattle.script_tree.specs.Limits.{base_count, bases_of_all}
use Rattle.script_tree.specs.Trees.{event_of, events_of}
use Rattle.script_tree.specs.declared.tree.Event.{size-Event}
use Rattle.script_tree.specs.declared.tree.Events.{size-Events}
use Rattle.runtime_run.proofs.bound.+base_events.Given as goal

abbrev pub invariant-loop-rest : goal.invariant-loop-rest
invariant-loop-rest l = record {
  size : size-Events l.rest < size-Event l.fn.event;
  count : l.count + bases_of_all (events_of l.rest) ≡ base_count (event_of l.fn.event);
}
