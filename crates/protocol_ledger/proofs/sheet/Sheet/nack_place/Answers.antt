use Rattle.std.proofs.Common.{◌+◌, ◌*◌, ◌∙◌, ap, arith}
use Rattle.protocol_ledger.specs.Sheets.{table_of}
use Rattle.protocol_ledger.specs.Short.{row_len, rows_of, words_below}
use Rattle.protocol_ledger.proofs.Places.{nack_inside}
use Rattle.protocol_ledger.proofs.Short.{short_nack_inside}
use Rattle.protocol_ledger.proofs.sheet.Sheet.nack_place.Goals as goal

pub behind-requires-clause-thread : goal.behind-requires-clause-thread
behind-requires-clause-thread c =
    let s = c.args.self.now in
    let its = nack_inside (table_of s) c.args.nack c.requires in
    omega (arith, s.few_threads, c.from.ensures)

pub overflow_add-result : goal.overflow_add-result
overflow_add-result c =
    let s = c.args.self.now in
    let its = nack_inside (table_of s) c.args.nack c.requires in
    let inside = short_nack_inside s.layout s.threads c.args.nack its.0 its.1 in
    let at = c.behind.ensures ∙ ap (λ t. words_below s.layout t + rows_of s.layout t * row_len s.layout.offers) c.from.ensures in
    omega (arith, s.sized, s.words.ok, c.from-2.ensures)

pub returns-clause-inside : goal.returns-clause-inside
returns-clause-inside c =
    let s = c.args.self.now in
    let its = nack_inside (table_of s) c.args.nack c.requires in
    let inside = short_nack_inside s.layout s.threads c.args.nack its.0 its.1 in
    let at = c.behind.ensures ∙ ap (λ t. words_below s.layout t + rows_of s.layout t * row_len s.layout.offers) c.from.ensures in
    omega (arith, s.sized, s.words.ok, c.from-2.ensures)
