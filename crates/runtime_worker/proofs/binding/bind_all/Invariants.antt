use Rattle.std.proofs.Common.{◌≡◌}
use Rattle.thread.specs.Machines.{nacks_in}
use Rattle.cell.specs.Calls.{IsPassOf}
use Rattle.runtime_worker.specs.Machines.{AreBound, LeavesOthers, OnlyBinds}
use Rattle.runtime_worker.proofs.binding.bind_all.Given as goal

-- the nacks of the scopes before this one are bound
abbrev pub invariant-loop-k : goal.invariant-loop-k
invariant-loop-k l =
    record {
      here : IsPassOf l.cells l.pass;
      only : OnlyBinds l.fn.pass l.pass;
      others : LeavesOthers l.row.thread l.fn.pass.seen l.pass.seen;
      scope : l.scope ≡ l.k-index;
      bound : AreBound l.row (nacks_in l.suspended.machine.value.phase) l.scope l.fn.pass.seen l.pass.seen;
    }
