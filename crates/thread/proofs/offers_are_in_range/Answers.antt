use Rattle.thread.proofs.Ranging.{machine_in_range}
use Rattle.thread.proofs.offers_are_in_range.Goals as goal

pub returns : goal.returns
returns c = machine_in_range
