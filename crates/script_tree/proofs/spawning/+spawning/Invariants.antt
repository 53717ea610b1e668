use Rattle.std.proofs.Common.{◌≡◌, ◌<◌, ◌≤◌, ◌||◌, ℕ}
use Rattle.script_tree.specs.declared.tree.Block.{size-Block}
use Rattle.script_tree.specs.declared.tree.Event.{size-Event}
use Rattle.script_tree.specs.declared.tree.Events.{size-Events}
use Rattle.script_tree.specs.Spawning.{has_bit, spawns_block, spawns_event, spawns_members}
use Rattle.script_tree.specs.Trees.{block_of, event_of, events_of}
use Rattle.script_tree.proofs.spawning.+spawning.Given as goal

abbrev pub invariant-spawned-loop-rest : goal.invariant-spawned-loop-rest
invariant-spawned-loop-rest l = record {
  size : size-Block l.rest ≤ size-Block l.fn.block;
  bits : (t : ℕ) → t < 64 → (has_bit l.mask t || spawns_block t (block_of l.rest)) ≡ spawns_block t (block_of l.fn.block);
}

abbrev pub invariant-spawned_within-loop-rest : goal.invariant-spawned_within-loop-rest
invariant-spawned_within-loop-rest l = record {
  size : size-Events l.rest < size-Event l.fn.event;
  bits : (t : ℕ) → t < 64 → (has_bit l.mask t || spawns_members t (events_of l.rest)) ≡ spawns_event t (event_of l.fn.event);
}
