use Rattle.journal_order.proofs.Results.{one-row}
use Rattle.journal_order.proofs.row_law.Goals as goal

pub returns : goal.returns
returns c = one-row
