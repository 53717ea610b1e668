use Rattle.thread.proofs.Printing.{block_behind}
use Rattle.thread.proofs.printing_law.Goals as goal

pub returns : goal.returns
returns c = block_behind
