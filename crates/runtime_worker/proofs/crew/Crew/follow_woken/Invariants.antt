use Rattle.runtime_worker.specs.Workers.{IsWorkerOf}
use Rattle.runtime_worker.proofs.crew.Crew.follow_woken.Given as goal

abbrev pub invariant-loop-row : goal.invariant-loop-row
invariant-loop-row g l = IsWorkerOf l.self l.worker
