use contract.Lifetimes.{Lfts}
use denote.Param.{param}
use denote.Param.Send.{IsSend, IsSync, sendable, param_send}
use Rattle.runtime_run.proofs.workers.start.Given.{Over}
use Rattle.runtime_run.proofs.workers.start.Lts as lts
use Rattle.runtime_worker.proofs.Crossing.{shared_sync, table_sync, worked_send, worker_send}
use Rattle.runtime_run.proofs.workers.start.Goals as goal

-- the closure of a worker may be sent
send_closure : (g : Over) (κs : Lfts 10) → IsSync (param 1 g.row.R) → IsSync (param 2 g.row.G) → IsSend (lts.arg-3-2 g.row.E g.row.R g.row.G g.E.laws g.R.laws g.G.laws g.R.Threads-dict g.R.Wait-dict g.G.Gate-dict g.G.StepGate-dict κs)
send_closure g κs r s = let a = shared_sync in let c = table_sync in let d = worker_send in search sendable depth 40

pub spawn_scoped_with-requires-send-F : goal.spawn_scoped_with-requires-send-F
spawn_scoped_with-requires-send-F g c κs within = param_send 2 (lts.arg-3-2 g.row.E g.row.R g.row.G g.E.laws g.R.laws g.G.laws g.R.Threads-dict g.R.Wait-dict g.G.Gate-dict g.G.StepGate-dict κs) (send_closure g κs c.type_bounds.sync-R c.type_bounds.sync-G)

send_worked : (g : Over) (κs : Lfts 10) → IsSend (lts.arg-3-3 g.row.E g.row.R g.row.G g.E.laws g.R.laws g.G.laws g.R.Threads-dict g.R.Wait-dict g.G.Gate-dict g.G.StepGate-dict κs)
send_worked g κs = let a = worked_send in search sendable depth 40

pub spawn_scoped_with-requires-send-T : goal.spawn_scoped_with-requires-send-T
spawn_scoped_with-requires-send-T g c κs within = param_send 3 (lts.arg-3-3 g.row.E g.row.R g.row.G g.E.laws g.R.laws g.G.laws g.R.Threads-dict g.R.Wait-dict g.G.Gate-dict g.G.StepGate-dict κs) (send_worked g κs)
