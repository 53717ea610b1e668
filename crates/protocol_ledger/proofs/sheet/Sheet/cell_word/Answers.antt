use Rattle.std.proofs.Common.{arith}
use Rattle.protocol_ledger.proofs.Sheets.{sheet_row, sheet_word}
use Rattle.protocol_ledger.proofs.sheet.Sheet.cell_word.Goals as goal

pub returns : goal.returns
returns c =
    let s = c.args.self.now in
    let row = sheet_row s c.args.row c.requires.thread c.requires.words in
    sheet_word s c.args.row 0 c.place-at.result c.index.result.now row c.requires.words (omega arith) c.place-at.ensures.value c.index.ensures
