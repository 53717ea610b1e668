use Rattle.journal_order.proofs.Stamps.{one-stamp, stamps-rise}
use Rattle.journal_order.proofs.stamp_laws.Goals as goal

pub returns-clause-rise : goal.returns-clause-rise
returns-clause-rise c = stamps-rise

pub returns-clause-one : goal.returns-clause-one
returns-clause-one c = one-stamp
