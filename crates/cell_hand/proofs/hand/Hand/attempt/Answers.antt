use Rattle.std.proofs.Common.{rules, refl}
use Rattle.cell.specs.Calls.{IsRowOf}
use Rattle.cell_hand.specs.Hands.{Looked, CanAttempt}
use Rattle.cell_hand.specs.contracts.hand.Hand.{the_view}
use Rattle.meet_scan.proofs.Growing.{grows_by}
use Rattle.cell_hand.proofs.Looking.{attempts}
use Rattle.cell_hand.proofs.hand.Hand.attempt.Goals as goal

pub returns : goal.returns
returns c =
    let m = the_view c.self-2.inside in
    let looked : Looked c.args.self.now m = (search rules) in
    let can : CanAttempt m c.args.mine = (search rules) in
    let there : IsRowOf c.args.self.now.table c.args.other = (search rules) in
    attempts c.args.self.now m (the_view (record { table = c.self-2.inside.table; pass = c.attempt.new.pass; scan = c.self-2.inside.scan })) c.args.mine c.args.own c.args.other c.args.partner c.attempt.result
    looked can there (refl, refl, refl) (grows_by _ _ c.self-2.inside.pass.seen c.attempt.new.pass.seen c.attempt.ensures.learns) c.attempt.ensures.made c.attempt.ensures.attempted c.attempt.ensures.fits
