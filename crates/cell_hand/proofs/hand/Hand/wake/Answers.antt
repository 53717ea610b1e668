use Rattle.std.proofs.Common.{rules, refl, subst}
use Rattle.std.specs.Prelude.{Ok}
use Rattle.cell.specs.Calls.{IsRowOf}
use Rattle.cell_hand.specs.Hands.{HandOf}
use Rattle.cell_hand.specs.Calls.{Wakes}
use Rattle.cell_hand.specs.contracts.hand.Hand.{the_view}
use Rattle.cell_hand.proofs.hand.Hand.wake.Goals as goal

pub returns : goal.returns
returns c =
    let there : IsRowOf c.self.inside.table.value.cells c.args.row = (search rules) in
    subst (λ (h : HandOf). Wakes h (the_view (record { table = c.self.inside.table; pass = c.wake_row.new.pass; scan = c.self.inside.scan })) c.args.row (Ok c.wake_row.result)) c.self.view_is
    (there, (refl, refl, refl), c.wake_row.ensures.grows, c.wake_row.ensures.made, c.wake_row.ensures.woken)
