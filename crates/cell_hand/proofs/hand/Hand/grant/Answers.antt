use Rattle.std.proofs.Common.{rules, refl, subst}
use Rattle.std.specs.Prelude.{Ok}
use Rattle.cell.specs.Calls.{IsRowOf}
use Rattle.cell_hand.specs.Hands.{HandOf}
use Rattle.cell_hand.specs.Calls.{Grants}
use Rattle.cell_hand.specs.contracts.hand.Hand.{the_view}
use Rattle.meet_scan.proofs.Growing.{grows_by}
use Rattle.cell_hand.proofs.hand.Hand.grant.Goals as goal

pub returns : goal.returns
returns c =
    let there : IsRowOf c.self.inside.table.value.cells c.args.row = (search rules) in
    subst (λ (h : HandOf). Grants h (the_view (record { table = c.self.inside.table; pass = c.grant.new.pass; scan = c.self.inside.scan })) c.args.row c.args.n (Ok c.grant.result))
    c.self.view_is (there, (refl, refl, refl), grows_by _ _ c.self.inside.pass.seen c.grant.new.pass.seen c.grant.ensures.learns, c.grant.ensures.made, c.grant.ensures.granted)
