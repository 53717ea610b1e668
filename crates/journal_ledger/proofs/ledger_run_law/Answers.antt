use Rattle.journal_ledger.proofs.Leading.{ledger-is-run}
use Rattle.journal_ledger.proofs.ledger_run_law.Goals as goal

pub returns : goal.returns
returns c = ledger-is-run
