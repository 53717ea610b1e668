use Rattle.journal_order.proofs.Sending.{named-is-received, received-is-sent}
use Rattle.journal_order.proofs.message_laws.Goals as goal

pub returns-clause-sent : goal.returns-clause-sent
returns-clause-sent c = received-is-sent

pub returns-clause-named : goal.returns-clause-named
returns-clause-named c = named-is-received
