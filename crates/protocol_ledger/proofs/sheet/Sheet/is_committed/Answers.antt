-- A row that is opened has words.
use Rattle.std.proofs.Common.{ℕ, ◌%◌, ltb, sym, ap, ◌∙◌}
use Rattle.protocol_ledger.specs.Sheets.{table_of}
use Rattle.protocol_ledger.proofs.Places.{row_inside}
use Rattle.protocol_ledger.proofs.Readings.{row_of_open}
use Rattle.protocol_ledger.proofs.CellWords.{committed_word}
use Rattle.protocol_ledger.proofs.Sheets.{sheet_open}
use Rattle.protocol_ledger.proofs.sheet.Sheet.is_committed.Goals as goal

pub cell_word-requires-clause-thread : goal.cell_word-requires-clause-thread
cell_word-requires-clause-thread c =
    let t = table_of c.args.self.now in
    (row_inside t c.args.row (row_of_open t c.args.row c.requires)).0

pub cell_word-requires-clause-words : goal.cell_word-requires-clause-words
cell_word-requires-clause-words c = sheet_open c.args.self.now c.args.row c.requires

pub returns : goal.returns
returns c =
    let t = table_of c.args.self.now in
    ap (λ (w : ℕ). ltb 2 (w % 8)) c.cell_word.ensures ∙ sym (committed_word t c.args.row (row_of_open t c.args.row c.requires) c.requires)
