-- What is known of a worker.
use Rattle.std.specs.Prelude.{◌≡◌, []}
use Rattle.cell.specs.Calls.{GridOf, IsPassOf, PassOf}
use Rattle.meet.specs.Rooms.{IsMeetPassOf}
use Rattle.meet_queues.specs.Ends.{IsEndOf}
use Rattle.runtime_worker.specs.declared.crew.Crew.{Crew}
use Rattle.runtime_worker.specs.declared.crew.Shared.{Shared}
use Rattle.runtime_worker.specs.declared.resident.Suspended.{Suspended}
use Rattle.runtime_worker.specs.declared.worker.Leavings.{Leavings}
use Rattle.runtime_worker.specs.declared.worker.Worker.{Worker}
use Rattle.runtime_worker.specs.Machines.{AreAtRest, IsTable}

-- its pass is one of the crew's table of machines, its lanes and its end are of what the crew shares, and machines at rest are
abbrev pub IsWorkerOf : {R G : Type 0} → Crew R G → Worker → Type 0
IsWorkerOf crew w =
    IsPassOf crew.cells.now w.pass × IsMeetPassOf crew.shared.now.meet w.lanes × IsEndOf crew.shared.now.ready w.end × IsTable crew.cells.now
    × AreAtRest crew.cells.now.first w.pass.results w.rests.items

-- what a worker leaves
abbrev pub IsLeavingsOf : GridOf Suspended → Leavings → Type 0
IsLeavingsOf cells l = IsPassOf cells l.pass × AreAtRest cells.first l.pass.results l.rests.items

-- a pass of the table that has seen nothing opened or bound and no thread end, and has begun with no thread
abbrev pub IsNewPassOf : GridOf Suspended → PassOf Suspended → Type 0
IsNewPassOf cells p = IsPassOf cells p × (p.seen.opened ≡ []) × (p.seen.begun ≡ []) × (p.seen.bound ≡ []) × (p.seen.ended ≡ []) × IsTable cells

-- a worker before its first turn
abbrev pub IsNewWorkerOf : GridOf Suspended → Shared → Worker → Type 0
IsNewWorkerOf cells shared w = IsNewPassOf cells w.pass × IsMeetPassOf shared.meet w.lanes × IsEndOf shared.ready w.end × (w.rests.items ≡ [])
