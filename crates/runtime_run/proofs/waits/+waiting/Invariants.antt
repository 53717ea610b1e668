use Rattle.std.proofs.Common.{◌≡◌, ◌<◌, ◌≤◌}
use Rattle.script_tree.specs.declared.tree.Block.{size-Block}
use Rattle.script_tree.specs.declared.tree.Event.{size-Event}
use Rattle.script_tree.specs.declared.tree.Events.{size-Events}
use Rattle.script_tree.specs.Trees.{block_of, event_of, events_of}
use Rattle.runtime_run.specs.Waiting.{waits_block, waits_event, waits_members}
use Rattle.runtime_run.proofs.waits.+waiting.Given as goal

abbrev pub invariant-block_waits-loop-rest : goal.invariant-block_waits-loop-rest
invariant-block_waits-loop-rest l = record {
  size : size-Block l.rest ≤ size-Block l.fn.block;
  same : waits_block l.what (block_of l.rest) ≡ waits_block l.what (block_of l.fn.block);
}

abbrev pub invariant-event_waits-loop-rest : goal.invariant-event_waits-loop-rest
invariant-event_waits-loop-rest l = record {
  size : size-Events l.rest < size-Event l.fn.event;
  same : waits_members l.what (events_of l.rest) ≡ waits_event l.what (event_of l.fn.event);
}
