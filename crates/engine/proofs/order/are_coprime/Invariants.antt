use Rattle.std.proofs.Common.{ℕ}
use Rattle.std.specs.Int.{IsGcd}
use Rattle.engine.proofs.Multiples.{IsMultiple}
use Rattle.engine.proofs.order.are_coprime.Given as goal

abbrev pub invariant-loop-less : goal.invariant-loop-less
invariant-loop-less l = record {
  divisor : (g : ℕ) → IsGcd l.greater l.less g → IsGcd l.count l.step g;
  greater : IsMultiple l.count l.step l.greater;
  less : IsMultiple l.count l.step l.less;
}

abbrev pub decreases-loop-less : goal.decreases-loop-less
decreases-loop-less l = l.less
