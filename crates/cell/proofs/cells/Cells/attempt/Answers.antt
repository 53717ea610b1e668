use Rattle.std.proofs.Common.{subst}
use Rattle.cell.specs.Attempts.{Attempted}
use Rattle.cell.specs.Calls.{PassOf}
use Rattle.cell.proofs.cells.Cells.attempt.Goals as goal

-- src/cells.rt:145:5
pub returns-clause-attempted : goal.returns-clause-attempted
returns-clause-attempted g c =
    subst (λ (p : PassOf g.row.M.Denot). Attempted p.seen c.attempt_rows.new.seat.me.0.seen c.args.mine c.args.own c.args.other c.args.partner c.attempt_rows.result) c.pass.view_is c.attempt_rows.ensures.attempted
