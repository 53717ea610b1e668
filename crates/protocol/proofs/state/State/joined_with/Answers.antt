-- A row that waits is in no commit, so one more stamp fits.
use Rattle.std.proofs.Common.{arith}
use Rattle.protocol.specs.States.{world_of}
use Rattle.protocol_ledger.proofs.Keeping.{next_last, waits_unjoined}
use Rattle.protocol.proofs.state.State.joined_with.Goals as goal

pub overflow_add-result : goal.overflow_add-result
overflow_add-result c =
    let w = world_of c.args.self.now in
    let free = waits_unjoined w c.args.other c.requires.waits in
    let a = next_last w c.args.other c.args.mine c.requires.sound.kept free in
    let b = next_last w c.args.other c.args.other c.requires.sound.kept free in
    omega (arith, c.max.ensures, c.last_stamp-mine_stamp.ensures, c.last_stamp-other_stamp.ensures)
