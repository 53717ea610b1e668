use Rattle.std.proofs.Common.{◌+◌, ◌≤◌, ◌<◌, ℕ}
use Rattle.script_tree.specs.Trees.{block_of, event_of, events_of}
use Rattle.script_tree.specs.declared.tree.Block.{size-Block}
use Rattle.script_tree.specs.declared.tree.Event.{size-Event}
use Rattle.script_tree.specs.declared.tree.Events.{size-Events}
use Rattle.runtime_run.specs.Syncs.{BlockSyncsAtMost, EventSyncsAtMost, MembersSyncAtMost}
use Rattle.runtime_run.proofs.bound.+counting.Given as goal

-- what is counted so far, and what is left
abbrev pub invariant-block_syncs-loop-rest : goal.invariant-block_syncs-loop-rest
invariant-block_syncs-loop-rest l = record {
  size : size-Block l.rest ≤ size-Block l.fn.block;
  counted : (k : ℕ) → l.count < 4294967295 → BlockSyncsAtMost k (block_of l.rest) → BlockSyncsAtMost (l.count + k) (block_of l.fn.block);
}

abbrev pub invariant-event_syncs-loop-rest : goal.invariant-event_syncs-loop-rest
invariant-event_syncs-loop-rest l = record {
  size : size-Events l.rest < size-Event l.fn.event;
  counted : (k : ℕ) → l.count < 4294967295 → MembersSyncAtMost k (events_of l.rest) → EventSyncsAtMost (l.count + k) (event_of l.fn.event);
}
