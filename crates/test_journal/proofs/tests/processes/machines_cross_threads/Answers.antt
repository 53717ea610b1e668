use denote.Param.Send.{IsSend, sendable}
use Rattle.std.proofs.Crossing.{crosses}
use Rattle.thread.specs.contracts.machine.Machine as Machine
use Rattle.thread.proofs.Crossing.{machine_send}
use Rattle.test_journal.proofs.tests.processes.machines_cross_threads.Goals as goal

pub crosses-b-requires-send-T : goal.crosses-b-requires-send-T
crosses-b-requires-send-T c κs = let a : IsSend Machine.the_row = machine_send in search sendable depth 20

pub crosses-slots-requires-send-T : goal.crosses-slots-requires-send-T
crosses-slots-requires-send-T c κs = let a : IsSend Machine.the_row = machine_send in search (sendable, crosses) depth 20
