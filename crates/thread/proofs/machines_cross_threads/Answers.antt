use Rattle.thread.proofs.Crossing.{machine_send}
use Rattle.thread.proofs.machines_cross_threads.Goals as goal

pub returns : goal.returns
returns c = machine_send
