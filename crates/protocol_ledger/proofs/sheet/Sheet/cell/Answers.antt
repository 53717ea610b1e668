use Rattle.std.proofs.Common.{◌∙◌, ap, sym, unwrap_or}
use Rattle.protocol_values.specs.declared.Cell.{Cell}
use Rattle.protocol_values.specs.declared.Cell.TheVariants.{Fresh}
use Rattle.std.specs.Prelude.{Option}
use Rattle.protocol_ledger.proofs.Sheets.{sheet_cell, sheet_fresh}
use Rattle.protocol_ledger.proofs.sheet.Sheet.cell.Goals as goal

pub returns-then-not-has_words : goal.returns-then-not-has_words
returns-then-not-has_words c = sym (sheet_fresh c.args.self.now c.args.row (c.has_words.ensures.lacks c.if-not-has_words.true))

pub returns : goal.returns
returns c =
    let there = c.has_words.ensures.has c.if-not-has_words.false in
    c.unwrap_or.ensures
    ∙ ap (λ (o : Option Cell). unwrap_or o Fresh) c.unpack_cell.ensures.value
    ∙ sheet_cell c.args.self.now c.args.row c.place-at.result c.index.result.now there.0 there.1 c.place-at.ensures.value c.index.ensures
