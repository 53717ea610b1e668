use Rattle.std.proofs.Common.{arith, refl}
use Rattle.engine.proofs.Trying.{goes-on}
use Rattle.engine.proofs.order.Order.next.Goals.{then-self-left, else-self-left}
use Rattle.engine.proofs.order.Order.next.Goals as goal

pub returns-clause-on : goal.returns-clause-on
returns-clause-on c =
    let o = c.args.self.now in
    let new = record o { at = c.if-self-left.self } in
    elim c.if-self-left.branch [
      | then-self-left w ↦ goes-on o new 0 refl refl (omega (arith, w.self-is))
      | else-self-left w ↦ goes-on o new 1 refl refl (omega (arith, w.self-is, w.if-self-left.false, c.requires.at))
    ]
