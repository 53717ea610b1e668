use Rattle.std.proofs.Common.{◌≢◌, ℕ, Contains}
use Rattle.protocol_values.specs.declared.Binding.{Binding}
use Rattle.protocol_values.specs.declared.NackName.{NackName}
use Rattle.protocol_ledger.specs.Tables.{bound_row}
use Rattle.cell.specs.Calls.{IsPassOf, KeepsResults}
use Rattle.cell_table.specs.Sight.{Has, IsStand}
use Rattle.runtime_worker.specs.Machines.{AreToBegin, IsNow, KeepsRows}
use Rattle.runtime_worker.proofs.crew.Crew.start_spawned.Given as goal

-- the pass still stands at the place, with the machine, and the threads that were started are to begin
abbrev pub invariant-loop-other : goal.invariant-loop-other
invariant-loop-other g l = record {
  here : IsPassOf l.self.cells.now l.pass;
  stands : IsStand l.self.cells.now.rows l.pass.seen l.place;
  now : IsNow l.self.cells.now.first l.pass l.place l.suspended;
  rows : KeepsRows l.fn.pass.seen l.pass.seen;
  free : (n : NackName) (b : Binding) → Has l.pass.seen.bound (n, b) → bound_row n b ≢ l.place;
  results : KeepsResults l.fn.pass l.pass;
  threads : AreToBegin l.self.cells.now.threads l.pass.seen l.threads.items;
  others : (t : ℕ) → Contains l.threads.items t → t ≢ l.place.thread;
}
