use Rattle.std.proofs.Common.{◌≡◌, ◌≤◌, ◌+◌, ◌<◌, ℕ, Contains}
use Rattle.runtime_worker.specs.Machines.{AreToBegin}
use Rattle.runtime_worker.specs.Workers.{IsWorkerOf}
use Rattle.runtime_worker.proofs.crew.Crew.begin_all.Given as goal

-- the threads behind those that are left are listed, whose first rows the pass holds; nothing else was done
abbrev pub invariant-loop-behind : goal.invariant-loop-behind
invariant-loop-behind g l =
    IsWorkerOf l.self l.worker × (l.worker ≡ l.fn.worker) × AreToBegin l.self.cells.now.threads l.worker.pass.seen l.threads.items × ((t : ℕ) → Contains l.threads.items t → (t < l.self.threads) × (l.self.threads ≤ t + l.behind))
