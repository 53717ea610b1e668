use Rattle.script_tree.proofs.Crossing.{process_send, process_sync}
use Rattle.script_tree.proofs.processes_cross_threads.Goals as goal

pub returns : goal.returns
returns c = record { moved = process_send; shared = process_sync }
