use Rattle.std.proofs.Common.{◌≡◌, ◌+◌, ◌-◌, ◌*◌, length}
use Rattle.script_reader.specs.Steps.{bare, here, repeated}
use Rattle.script_reader.specs.Exprs.{operand_at, sum_at, term_step, parts_of}
use Rattle.script_reader.proofs.expr.+sum.Given as goal

abbrev pub decreases-operand : goal.decreases-operand
decreases-operand l = 2 * l.nesting

abbrev pub decreases-sum_of : goal.decreases-sum_of
decreases-sum_of l = 2 * l.nesting + 1

abbrev pub invariant-sum_of-loop-turn : goal.invariant-sum_of-loop-turn
invariant-sum_of-loop-turn l =
    repeated (term_step (operand_at l.nesting (here l.scope)) l.nesting) (length (bare l.tokens) - l._turn) (parts_of l.sum, bare l.rest)
    ≡ sum_at l.nesting (here l.scope) (bare l.tokens)
