use Rattle.journal_order.proofs.Meeting.{each-meets}
use Rattle.journal_order.proofs.meeting_law.Goals as goal

pub returns : goal.returns
returns c = each-meets
