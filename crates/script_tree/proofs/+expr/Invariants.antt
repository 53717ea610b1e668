use Rattle.std.proofs.Common.{◌≤◌}
use Rattle.script_tree.specs.declared.tree.Terms.{size-Terms}
use Rattle.script_tree.proofs.+expr.Given as goal

abbrev pub invariant-tree::Terms::drop-loop-self : goal.invariant-tree::Terms::drop-loop-self
invariant-tree::Terms::drop-loop-self l = size-Terms l.self ≤ size-Terms l.initial.self
