use Rattle.std.proofs.Common.{◌+◌, ◌*◌, ◌∙◌, ap, arith}
use Rattle.protocol_ledger.specs.Short.{row_len, rows_of, words_below}
use Rattle.protocol_ledger.proofs.Short.{fits_more, short_nack_inside, words_few}
use Rattle.cell_table.proofs.board.Board.nack_place.Goals as goal

pub overflow_add-result : goal.overflow_add-result
overflow_add-result g c =
    let b = c.args.self.now in
    let y = b.shape.layout in
    let few = b.small.1 in
    let inside = short_nack_inside y b.shape.threads c.args.nack c.requires.0 c.requires.1 in
    let all = words_few y b.shape.threads (fits_more y b.shape.rows 1024 b.small.3 b.fits) in
    let at = c.behind.ensures ∙ ap (λ t. words_below y t + rows_of y t * row_len y.offers) c.from.ensures in
    omega (arith, c.from-2.ensures)

pub returns : goal.returns
returns g c =
    let b = c.args.self.now in
    let y = b.shape.layout in
    let inside = short_nack_inside y b.shape.threads c.args.nack c.requires.0 c.requires.1 in
    let at = c.behind.ensures ∙ ap (λ t. words_below y t + rows_of y t * row_len y.offers) c.from.ensures in
    (omega (arith, c.from-2.ensures), omega (arith, c.from-2.ensures, b.sized))
