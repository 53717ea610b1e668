use Rattle.std.proofs.Common.{arith}
use Rattle.protocol_ledger.proofs.Short.{short_inside}
use Rattle.cell_table.proofs.closing.cell_there.Goals as goal

pub bounds-words-place : goal.bounds-words-place
bounds-words-place g c =
    let shape = c.args.shape.now in
    let inside = short_inside shape.layout shape.threads c.args.row 0 c.requires.row.0 c.requires.row.1 (omega arith) in
    omega (arith, c.place-place.ensures, c.requires.shape.3)
