use Rattle.journal_ledger.proofs.Leading.{ledger-goes-on, results-go-on, rows-go-on}
use Rattle.journal_ledger.proofs.Opening.{opening-leads, tells-run-on}
use Rattle.journal_ledger.proofs.going_on_law.Goals as goal

pub returns-clause-opens : goal.returns-clause-opens
returns-clause-opens c = opening-leads

pub returns-clause-run : goal.returns-clause-run
returns-clause-run c = ledger-goes-on

pub returns-clause-results : goal.returns-clause-results
returns-clause-results c = results-go-on

pub returns-clause-rows : goal.returns-clause-rows
returns-clause-rows c = rows-go-on

pub returns-clause-tells : goal.returns-clause-tells
returns-clause-tells c = tells-run-on
