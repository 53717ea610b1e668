use Rattle.std.proofs.Common.{◌≡◌, ◌≤◌}
use Rattle.script_tree.specs.Trees.{expr_of, terms_of}
use Rattle.script_tree.specs.declared.tree.Terms.{size-Terms}
use Rattle.pcml_why_sites.specs.Troubles.{expr_value, sum_value}
use Rattle.pcml_why_sites.proofs.value.+value.Given as goal

abbrev pub decreases-value_of : goal.decreases-value_of
decreases-value_of l = goal.size-value_of l

abbrev pub decreases-value_of_term : goal.decreases-value_of_term
decreases-value_of_term l = goal.size-value_of_term l

abbrev pub invariant-value_of-loop-terms : goal.invariant-value_of-loop-terms
invariant-value_of-loop-terms l = record {
  value : sum_value l.variables (terms_of l.terms) l.name l.value ≡ expr_value l.variables (expr_of l.fn.expr);
  depth : size-Terms l.terms ≤ size-Terms l.fn.expr.more;
}
