use Rattle.runtime_worker.specs.Machines.{AreToBegin, KeepsRows}
use Rattle.runtime_worker.specs.Workers.{IsWorkerOf}
use Rattle.runtime_worker.proofs.crew.Crew.begin_each.Given as goal

-- those that are left are still to begin
abbrev pub invariant-loop : goal.invariant-loop
invariant-loop g l =
    (goal.iterator-loop g).can_next l.iterator' × (goal.iterator-loop g).is_finite l.iterator' × IsWorkerOf l.self l.worker × AreToBegin l.self.cells.now.threads l.worker.pass.seen l.threads.items × KeepsRows l.fn.worker.pass.seen l.worker.pass.seen
