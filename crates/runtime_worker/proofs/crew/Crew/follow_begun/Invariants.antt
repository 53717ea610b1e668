use Rattle.runtime_worker.specs.Workers.{IsWorkerOf}
use Rattle.runtime_worker.proofs.crew.Crew.follow_begun.Given as goal

abbrev pub invariant-loop-first : goal.invariant-loop-first
invariant-loop-first g l = IsWorkerOf l.self l.worker

abbrev pub invariant-loop-first-2 : goal.invariant-loop-first-2
invariant-loop-first-2 g l = IsWorkerOf l.self l.worker
