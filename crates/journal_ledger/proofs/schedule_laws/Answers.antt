use Rattle.journal_ledger.proofs.Schedules.{schedule-has-ledger, schedule-is-run}
use Rattle.journal_ledger.proofs.schedule_laws.Goals as goal

pub returns : goal.returns
returns c = record { ledger = schedule-has-ledger; run = schedule-is-run }
