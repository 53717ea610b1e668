use Rattle.std.proofs.Common.{◌≡◌, ◌+◌, ◌≤◌, vec_len}
use Rattle.script_tree.specs.declared.tree.Block.{size-Block}
use Rattle.script_tree.specs.declared.tree.Event.{size-Event}
use Rattle.script_tree.specs.declared.tree.Events.{size-Events}
use Rattle.script_tree.specs.declared.tree.Stmt.{size-Stmt}
use Rattle.script_tree.specs.declared.tree.LoopBody.{size-LoopBody}
use Rattle.script_tree.specs.Lined.{block_of, events_of}
use Rattle.script_tree.specs.Trees.{block_of as plain_block, events_of as plain_events}
use Rattle.script.specs.Lining.{count_block, count_members, lined_block, lined_members}
use Rattle.script.proofs.Putting.{before, members_before}
use Rattle.script.proofs.lining.+lining.Given as goal

abbrev pub decreases-line_block : goal.decreases-line_block
decreases-line_block l = size-Block l.block.now

abbrev pub decreases-line_stmt : goal.decreases-line_stmt
decreases-line_stmt l = size-Stmt l.stmt.now

abbrev pub decreases-line_turn : goal.decreases-line_turn
decreases-line_turn l = size-LoopBody l.turn.now

abbrev pub decreases-line_event : goal.decreases-line_event
decreases-line_event l = size-Event l.event.now.value

abbrev pub decreases-line_members : goal.decreases-line_members
decreases-line_members l = size-Events l.members.now.value

abbrev pub invariant-line_block-loop-rest : goal.invariant-line_block-loop-rest
invariant-line_block-loop-rest l = record {
  same : before l.parts.items (lined_block l.lines l.next (plain_block l.rest)) ≡ lined_block l.fn.lines l.fn.next (plain_block l.fn.block);
  count : l.next + count_block (plain_block l.rest) ≡ l.fn.next + count_block (plain_block l.fn.block);
  size : size-Block l.rest ≤ size-Block l.fn.block;
}

abbrev pub invariant-line_block-loop-part : goal.invariant-line_block-loop-part
invariant-line_block-loop-part l = record {
  same : before l.parts.items (block_of l.all.value) ≡ lined_block l.fn.lines l.fn.next (plain_block l.fn.block);
}

abbrev pub decreases-line_block-loop-part : goal.decreases-line_block-loop-part
decreases-line_block-loop-part l = vec_len l.parts

abbrev pub invariant-line_members-loop-member : goal.invariant-line_members-loop-member
invariant-line_members-loop-member l = record {
  same : members_before l.parts.items (lined_members l.lines l.next (plain_events l.rest.value)) ≡ lined_members l.fn.lines l.fn.next (plain_events l.fn.members.value);
  count : l.next + count_members (plain_events l.rest.value) ≡ l.fn.next + count_members (plain_events l.fn.members.value);
  size : size-Events l.rest.value ≤ size-Events l.fn.members.value;
}

abbrev pub invariant-line_members-loop-part : goal.invariant-line_members-loop-part
invariant-line_members-loop-part l = record {
  same : members_before l.parts.items (events_of l.all.value) ≡ lined_members l.fn.lines l.fn.next (plain_events l.fn.members.value);
}

abbrev pub decreases-line_members-loop-part : goal.decreases-line_members-loop-part
decreases-line_members-loop-part l = vec_len l.parts
