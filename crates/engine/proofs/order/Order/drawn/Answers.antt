use Rattle.std.proofs.Common.{ℕ, subst, sym}
use Rattle.engine.specs.Orders.{HasInverse}
use Rattle.engine.proofs.Trying.{one-has-inverse, tries-each}
use Rattle.engine.proofs.order.Order.drawn.Goals.{then-count-gt2, else-count-gt2}
use Rattle.engine.proofs.order.Order.drawn.Goals as goal

pub returns-clause-each : goal.returns-clause-each
returns-clause-each c =
    let count = c.args.count in
    let step : ℕ = c.if-count-gt2.step in
    let inverse : HasInverse step count = elim c.if-count-gt2.branch [
      | then-count-gt2 w ↦ subst (λ (s : ℕ). HasInverse s count) (sym w.step-is) w.step_of-step.ensures.inverse
      | else-count-gt2 w ↦ subst (λ (s : ℕ). HasInverse s count) (sym w.step-is) (one-has-inverse count)
    ] in
    tries-each (record { count = count; step = step; at = c.below-at.result }) inverse
