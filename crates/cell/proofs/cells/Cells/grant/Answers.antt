use Rattle.std.proofs.Common.{subst}
use Rattle.cell.specs.Attempts.{Granted}
use Rattle.cell.specs.Calls.{PassOf}
use Rattle.cell.proofs.cells.Cells.grant.Goals as goal

pub returns-clause-granted : goal.returns-clause-granted
returns-clause-granted g c =
    subst (λ (p : PassOf g.row.M.Denot). Granted p.seen c.grant_row.new.seat.me.0.seen c.args.row c.args.n c.grant_row.result) c.pass.view_is c.grant_row.ensures.granted
