use Rattle.journal_order.proofs.Nacks.{one-sync}
use Rattle.journal_order.proofs.nack_law.Goals as goal

pub returns : goal.returns
returns c = one-sync
