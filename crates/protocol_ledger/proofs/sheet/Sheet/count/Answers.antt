-- A row that is not Fresh is one of the table's.
use Rattle.std.proofs.Common.{ap, sym, ◌∙◌}
use Rattle.protocol_ledger.specs.Tables.{is_fresh}
use Rattle.protocol_ledger.specs.Sheets.{table_of}
use Rattle.protocol_ledger.proofs.Readings.{row_of_open, open_cell}
use Rattle.protocol_ledger.proofs.sheet.Sheet.count.Goals as goal

pub word-requires-clause-row : goal.word-requires-clause-row
word-requires-clause-row c =
    row_of_open (table_of c.args.self.now) c.args.row (ap is_fresh (sym c.cell.ensures) ∙ open_cell c.cell.result c.in_default.not-Fresh)
