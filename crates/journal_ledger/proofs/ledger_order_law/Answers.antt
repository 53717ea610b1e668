use Rattle.journal_ledger.proofs.LedgerOrder.{one-ledger-order}
use Rattle.journal_ledger.proofs.ledger_order_law.Goals as goal

pub returns : goal.returns
returns c = one-ledger-order
