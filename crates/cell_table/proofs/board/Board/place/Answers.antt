use Rattle.std.proofs.Common.{◌≡◌, ◌*◌, ◌∙◌, ap, arith, get_or}
use Rattle.protocol_ledger.specs.Short.{row_len, words_below}
use Rattle.protocol_ledger.proofs.Short.{short_inside}
use Rattle.cell_table.proofs.board.Board.place.Goals as goal

pub returns : goal.returns
returns g c =
    let b = c.args.self.now in
    let r = c.args.row in
    let few = b.small.1 in
    let its = c.requires.0.0 in
    let inside = short_inside b.shape.layout b.shape.threads r c.args.place c.requires.0.0 c.requires.1 c.requires.2 in
    let start : get_or b.starts c.from.result 0 ≡ words_below b.shape.layout r.thread = ap (λ t. get_or b.starts t 0) c.from.ensures ∙ b.located r.thread (omega arith) in
    let rows : r.sync * c.row_len.result ≡ r.sync * row_len b.shape.layout.offers = (λ i. r.sync * c.row_len.ensures i) in
    (omega (arith, c.from-2.ensures), omega (arith, c.from-2.ensures, b.sized))
