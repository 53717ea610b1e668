use Rattle.std.proofs.Common.{rules, refl}
use Rattle.cell_hand.specs.Hands.{CanDraft, Looked}
use Rattle.cell_hand.specs.contracts.hand.Hand.{the_view}
use Rattle.meet_scan.proofs.Growing.{grows_by}
use Rattle.cell_hand.proofs.Looking.{binds}
use Rattle.cell_hand.proofs.hand.Hand.bind.Goals as goal

pub returns : goal.returns
returns c =
    let m = the_view c.self.inside in
    let looked : Looked c.args.self.now m = (search rules) in
    let can : CanDraft c.args.self.now c.args.row = (search rules) in
    binds c.args.self.now m (the_view (record { table = c.self.inside.table; pass = c.bind.new.pass; scan = c.self.inside.scan })) c.args.k c.args.row c.args.scope c.bind.result looked can
    (refl, refl, refl) (grows_by _ _ c.self.inside.pass.seen c.bind.new.pass.seen c.bind.ensures.learns) c.bind.ensures.made c.bind.ensures.results c.bind.ensures.bound
