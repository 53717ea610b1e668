use Rattle.runtime_worker.specs.Workers.{IsWorkerOf}
use Rattle.runtime_worker.proofs.crew.Crew.wake_all.Given as goal

abbrev pub invariant-loop : goal.invariant-loop
invariant-loop g l =
    (goal.iterator-loop g).can_next l.iterator' × (goal.iterator-loop g).is_finite l.iterator' × IsWorkerOf l.self l.worker
