-- Every allowed step keeps the world, and a kept world has a lawful ledger.
use Rattle.protocol_ledger.proofs.Going.{start_opens}
use Rattle.protocol_ledger.proofs.LedgerLemmas.{lawful_from_start, lawful_schedule, start_begins}
use Rattle.protocol.proofs.every_schedule_is_lawful.Goals as goal

pub returns-clause-lawful : goal.returns-clause-lawful
returns-clause-lawful c = lawful_schedule

pub returns-clause-at_first : goal.returns-clause-at_first
returns-clause-at_first c = lawful_from_start

pub returns-clause-opens : goal.returns-clause-opens
returns-clause-opens c = start_opens

pub returns-clause-starts : goal.returns-clause-starts
returns-clause-starts c = start_begins
