use Rattle.std.proofs.Common.{◌≡◌, ◌≤◌}
use Rattle.script_tree.specs.Trees.{expr_of, terms_of}
use Rattle.script_tree.specs.declared.tree.Terms.{size-Terms}
use Rattle.thread.specs.Values.{expr_value, sum_value}
use Rattle.thread.proofs.value.+value.Given as goal

abbrev pub decreases-value_of_sum : goal.decreases-value_of_sum
decreases-value_of_sum l = goal.size-value_of_sum l

abbrev pub decreases-value_of_term : goal.decreases-value_of_term
decreases-value_of_term l = goal.size-value_of_term l

abbrev pub invariant-value_of_sum-loop-terms : goal.invariant-value_of_sum-loop-terms
invariant-value_of_sum-loop-terms l = record {
  value : sum_value l.variables (terms_of l.terms) l.value ≡ expr_value l.variables (expr_of l.fn.expr);
  depth : size-Terms l.terms ≤ size-Terms l.fn.expr.more;
}
