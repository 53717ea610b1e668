-- What the workers of a run leave.
use Rattle.std.specs.Prelude.{◌≡◌, List, Contains, map}
use Rattle.cell.specs.Calls.{PassOf}
use Rattle.runtime_worker.specs.declared.resident.Rest.{Rest}
use Rattle.runtime_worker.specs.declared.resident.Suspended.{Suspended}
use Rattle.runtime_worker.specs.declared.worker.Leavings.{Leavings}

-- the passes that workers left, and the machines at rest with any of them
abbrev pub AreParted : List Leavings → List (PassOf Suspended) → List Rest → Type 0
AreParted left passes rests = (passes ≡ map (λ l. l.pass) left) × ((r : Rest) → Contains rests r → (l : Leavings) × Contains left l × Contains l.rests.items r)
