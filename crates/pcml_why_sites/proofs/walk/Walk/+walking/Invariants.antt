use Rattle.std.proofs.Common.{◌≡◌, ◌<◌, ◌≤◌}
use Rattle.script_tree.specs.declared.tree.Block.{size-Block}
use Rattle.script_tree.specs.declared.tree.Event.{size-Event}
use Rattle.script_tree.specs.declared.tree.Events.{size-Events}
use Rattle.script_tree.specs.Trees.{block_of, event_of, events_of, turn_of}
use Rattle.pcml_why_sites.specs.Walks.{times, view_in, walk_block, walk_event, walk_members, walk_turn}
use Rattle.pcml_why_sites.proofs.walk.Walk.+walking.Given as goal

-- what is left does from here what all does

abbrev pub invariant-run-loop-rest : goal.invariant-run-loop-rest
invariant-run-loop-rest l = record {
  size : size-Block l.rest ≤ size-Block l.fn.block;
  same : walk_block (block_of l.rest) (view_in l.self) ≡ walk_block (block_of l.fn.block) (view_in l.fn.self);
}

abbrev pub invariant-repeat-loop-left : goal.invariant-repeat-loop-left
invariant-repeat-loop-left l = record {
  same : times l.left (walk_turn (turn_of l.fn.turn)) (view_in l.self) ≡ times l.fn.turns (walk_turn (turn_of l.fn.turn)) (view_in l.fn.self);
}

abbrev pub decreases-repeat-loop-left : goal.decreases-repeat-loop-left
decreases-repeat-loop-left l = l.left

abbrev pub invariant-resolve-loop-rest : goal.invariant-resolve-loop-rest
invariant-resolve-loop-rest l = record {
  size : size-Events l.rest < size-Event l.fn.event;
  same : walk_members (events_of l.rest) (view_in l.self) ≡ walk_event (event_of l.fn.event) (view_in l.fn.self);
}
