use Rattle.std.proofs.Common.{◌≤◌}
use Rattle.script_tree.specs.declared.tree.Block.{size-Block}
use Rattle.script_tree.specs.declared.tree.Events.{size-Events}
use Rattle.script_tree.proofs.+process.Given as goal

abbrev pub invariant-tree::Block::drop-loop-self : goal.invariant-tree::Block::drop-loop-self
invariant-tree::Block::drop-loop-self l = size-Block l.self ≤ size-Block l.initial.self

abbrev pub invariant-tree::Events::drop-loop-self : goal.invariant-tree::Events::drop-loop-self
invariant-tree::Events::drop-loop-self l = size-Events l.self ≤ size-Events l.initial.self
