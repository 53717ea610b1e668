use Rattle.std.proofs.Common.{ap, ◌∙◌}
use Rattle.protocol_ledger.specs.Ledgers.{Ledger, pending_in}
use Rattle.protocol_ledger.specs.Sheets.{table_of}
use Rattle.protocol_ledger.proofs.LedgerReadings.{pending_in_ledger}
use Rattle.protocol_ledger.proofs.ledger.Ledger.pending.Goals as goal

pub returns : goal.returns
returns c = c.pending.ensures ∙ pending_in_ledger (table_of c.self.inside.sheet) ∙ ap (λ (l : Ledger). pending_in l) c.self.view_is
