use Rattle.journal_ledger.proofs.Leading.{tells-nack, tells-stamp, tells-started, tells-thread}
use Rattle.journal_ledger.proofs.Opening.{first-tells-run}
use Rattle.journal_ledger.proofs.ledger_tells_law.Goals as goal

pub returns-clause-results : goal.returns-clause-results
returns-clause-results c = tells-thread

pub returns-clause-nacks : goal.returns-clause-nacks
returns-clause-nacks c = tells-nack

pub returns-clause-stamps : goal.returns-clause-stamps
returns-clause-stamps c = tells-stamp

pub returns-clause-starts : goal.returns-clause-starts
returns-clause-starts c = tells-started

pub returns-clause-run : goal.returns-clause-run
returns-clause-run c = first-tells-run
