use Rattle.std.proofs.Common.{◌+◌, ◌*◌, ◌∙◌, ap, arith}
use Rattle.protocol_ledger.specs.Short.{row_len, rows_of, words_below}
use Rattle.protocol_ledger.proofs.Short.{short_course_inside}
use Rattle.protocol_ledger.proofs.sheet.Sheet.course_place.Goals as goal

pub overflow_add-result : goal.overflow_add-result
overflow_add-result c =
    let s = c.args.self.now in
    let inside = short_course_inside s.layout s.threads c.args.thread c.requires in
    let at = c.behind.ensures ∙ ap (λ t. words_below s.layout t + rows_of s.layout t * row_len s.layout.offers) c.from.ensures in
    omega (arith, s.sized, s.words.ok)

pub returns-clause-inside : goal.returns-clause-inside
returns-clause-inside c =
    let s = c.args.self.now in
    let inside = short_course_inside s.layout s.threads c.args.thread c.requires in
    let at = c.behind.ensures ∙ ap (λ t. words_below s.layout t + rows_of s.layout t * row_len s.layout.offers) c.from.ensures in
    omega (arith, s.sized, s.words.ok)
