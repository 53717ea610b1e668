use Rattle.std.proofs.Common.{◌+◌, ◌*◌, arith}
use Rattle.protocol_ledger.proofs.Short.{fits_more, short_inside, words_few}
use Rattle.cell_table.proofs.board.Board.place_behind.Goals as goal

pub overflow_add-result : goal.overflow_add-result
overflow_add-result g c =
    let b = c.args.self.now in
    let y = b.shape.layout in
    let inside = short_inside y b.shape.threads c.args.row c.args.place c.requires.there.0.0 c.requires.there.1 c.requires.there.2 in
    let all = words_few y b.shape.threads (fits_more y b.shape.rows 1024 b.small.3 b.fits) in
    omega (arith, c.from.ensures, c.requires.first)

pub returns : goal.returns
returns g c =
    let b = c.args.self.now in
    let y = b.shape.layout in
    let inside = short_inside y b.shape.threads c.args.row c.args.place c.requires.there.0.0 c.requires.there.1 c.requires.there.2 in
    (omega (arith, c.from.ensures, c.requires.first), omega (arith, c.from.ensures, c.requires.first, b.sized))
