use Rattle.journal_order.proofs.Starts.{above-starts, each-started}
use Rattle.journal_order.proofs.start_law.Goals as goal

pub returns-clause-started : goal.returns-clause-started
returns-clause-started c = each-started

pub returns-clause-above : goal.returns-clause-above
returns-clause-above c = above-starts
