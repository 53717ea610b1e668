-- What workers share may be shared among threads.
use denote.Param.Send.{IsSend, IsSync, sendable}
use denote.Param.SendFields.{declared_send, declared_sync}
use Rattle.meet.proofs.meet.MeetPass.TheSendSync.{the_send as lanes_send}
use Rattle.meet_queues.proofs.ends.ReadyEnd.TheSendSync.{the_send as end_send}
use Rattle.std.proofs.Crossing.{Vec-send, crosses, sync}
use Rattle.thread.proofs.Crossing.{machine_send}
use Rattle.cell.specs.contracts.cells.Cells as Cells
use Rattle.cell.specs.contracts.cells.Pass as Pass
use Rattle.cell.proofs.cells.Pass.TheSendSync.{the_send as pass_send}
use Rattle.cell.proofs.Crossing.{cells_sync}
use Rattle.runtime_worker.specs.contracts.resident.Suspended as Suspended
use Rattle.runtime_worker.specs.contracts.resident.SuspendedResident.TheImpl as resident
use Rattle.meet.proofs.meet.Meet.TheSendSync.{the_sync as meet_sync}
use Rattle.meet_queues.proofs.ready.Ready.TheSendSync.{the_sync as ready_sync}
use Rattle.runtime_worker.specs.contracts.activity.Activity as Activity
use Rattle.runtime_worker.specs.contracts.notes.Notes as Notes
use Rattle.runtime_worker.specs.contracts.crew.Shared as Shared
use Rattle.runtime_worker.specs.contracts.resident.Rest as Rest
use Rattle.runtime_worker.specs.contracts.worker.Leavings as Leavings
use Rattle.runtime_worker.specs.contracts.worker.Worker as Worker
use Rattle.runtime_worker.specs.contracts.worker.Worked as Worked

activity_sync : IsSync Activity.the_row
activity_sync = search (sendable, crosses) depth 40

notes_sync : IsSync Notes.the_row
notes_sync = search (sendable, crosses) depth 40

pub shared_sync : IsSync Shared.the_row
shared_sync = declared_sync Shared.the_type (sync, (meet_sync, (ready_sync, (activity_sync, (notes_sync, tt)))))

-- and a machine goes from one to another
suspended_send : IsSend Suspended.the_row
suspended_send = let m = machine_send in search (sendable, crosses) depth 40

pub table_sync : IsSync (Cells.the_row Suspended.the_row resident.ghosts)
table_sync = cells_sync Suspended.the_row resident.ghosts suspended_send

pub passes_send : IsSend (Pass.the_row Suspended.the_row)
passes_send = pass_send Suspended.the_row suspended_send

rest_send : IsSend Rest.the_row
rest_send = declared_send Rest.the_type ((search sendable depth 20), (suspended_send, tt))

pub worker_send : IsSend Worker.the_row
worker_send = declared_send Worker.the_type (passes_send, (Vec-send Rest.the_row rest_send, (lanes_send, (end_send, ((search sendable depth 20), tt)))))

left_send : IsSend Leavings.the_row
left_send = declared_send Leavings.the_type (passes_send, (Vec-send Rest.the_row rest_send, tt))

pub worked_send : IsSend Worked.the_row
worked_send = declared_send Worked.the_type (left_send, ((search (sendable, crosses) depth 40), tt))
