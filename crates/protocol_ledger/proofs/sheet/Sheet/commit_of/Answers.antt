-- No commit has a Fresh row.
use Rattle.std.proofs.Common.{sym, ap, ◌∙◌}
use Rattle.protocol_ledger.specs.Tables.{is_fresh}
use Rattle.protocol_ledger.specs.Sheets.{table_of}
use Rattle.protocol_ledger.proofs.LedgerReadings.{commit_fresh}
use Rattle.protocol_ledger.proofs.sheet.Sheet.commit_of.Goals as goal

pub returns-then-is_fresh : goal.returns-then-is_fresh
returns-then-is_fresh c =
    sym (commit_fresh (table_of c.args.self.now) c.args.row c.requires (ap is_fresh (sym c.cell-cell.ensures) ∙ sym c.is_fresh.ensures ∙ c.if-is_fresh.true))
