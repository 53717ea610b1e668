-- A row that waits is in no commit, so one more stamp fits.
use Rattle.std.proofs.Common.{arith}
use Rattle.protocol_ledger.specs.Tables.{offer_at}
use Rattle.protocol.specs.States.{world_of}
use Rattle.protocol_ledger.proofs.Keeping.{next_cause, next_last, waits_unjoined}
use Rattle.protocol.proofs.state.State.granted_by.Goals as goal

pub overflow_add-result : goal.overflow_add-result
overflow_add-result c =
    let w = world_of c.args.self.now in
    let free = waits_unjoined w c.args.row c.requires.waits in
    let a = next_last w c.args.row c.args.row c.requires.sound.kept free in
    let b = next_cause w c.args.row (offer_at w.table c.args.row c.args.offer) c.args.cause c.requires.sound.kept free c.requires.cause in
    omega (arith, c.last_stamp-last.ensures)
