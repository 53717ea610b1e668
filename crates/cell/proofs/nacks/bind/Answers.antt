use Rattle.protocol_ledger.specs.Worlds.{nack_of_row}
use Rattle.cell.proofs.Binding.{bound_before, bound_else}
use Rattle.cell.proofs.nacks.bind.Goals as goal

pub returns-in-Err-clause-bound : goal.returns-in-Err-clause-bound
returns-in-Err-clause-bound g c =
    let told = c.in-Err.ensures.found in
    bound_else g.M.Resident.stands c.args.seat.now.me.0 c.bind_nack.new.seat.me.0 (nack_of_row c.args.row c.args.k) (record { sync = c.args.row.sync; scope = c.args.scope }) c.in-Err.field-0 c.requires.held.0 told.1 told.2

pub returns-in-Err-clause-earlier : goal.returns-in-Err-clause-earlier
returns-in-Err-clause-earlier g c lost filled =
    let told = c.in-Err.ensures.found in
    bound_before g.M.Resident.stands c.args.board.now.shape.first.value.items c.args.seat.now.me.0 c.bind_nack.new.seat.me.0 c.args.row c.args.k c.args.scope c.in-Err.field-0 c.requires.sits.0.4 filled told.1 told.2
