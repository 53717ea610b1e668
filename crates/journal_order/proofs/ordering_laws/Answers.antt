use Rattle.journal_order.proofs.Ordering.{has-order, one-order, ordered-is-run}
use Rattle.journal_order.proofs.ordering_laws.Goals as goal

pub returns-clause-run : goal.returns-clause-run
returns-clause-run c = ordered-is-run

pub returns-clause-there : goal.returns-clause-there
returns-clause-there c = has-order

pub returns-clause-one : goal.returns-clause-one
returns-clause-one c = one-order
