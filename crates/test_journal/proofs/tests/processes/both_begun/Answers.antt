use denote.Param.Send.{IsSend, sendable}
use Rattle.std.proofs.Crossing.{crosses}
use Rattle.thread.specs.contracts.machine.Machine as Machine
use Rattle.thread.proofs.Crossing.{machine_send}
use Rattle.test_journal.proofs.tests.processes.both_begun.Goals as goal

pub join-requires-send-F : goal.join-requires-send-F
join-requires-send-F g c κs within = let a : IsSend Machine.the_row = machine_send in search (sendable, crosses) depth 20

pub join-requires-send-A : goal.join-requires-send-A
join-requires-send-A g c κs within = let a : IsSend Machine.the_row = machine_send in search (sendable, crosses) depth 20
