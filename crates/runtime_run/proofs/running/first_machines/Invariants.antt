use Rattle.std.proofs.Common.{◌≡◌, ℕ, map, length, slice_get, Some}
use Rattle.script_tree.specs.Processes.{Proc, proc_of, tree_of}
use Rattle.thread.specs.Machines.{StartsAs}
use Rattle.runtime_worker.specs.declared.resident.Suspended.{Suspended}
use Rattle.runtime_run.proofs.Trees.{RunFirst}
use Rattle.runtime_run.proofs.running.first_machines.Given as goal

-- the machines so far are those of the first processes
abbrev pub invariant-loop-thread : goal.invariant-loop-thread
invariant-loop-thread l =
    (length l.first.items ≡ l.thread)
    × ((i : ℕ) (n : Suspended) → slice_get l.first.items i ≡ Some n → (q : Proc) × (slice_get (map proc_of l.processes) i ≡ Some q) × StartsAs q i n.machine.value)
    × RunFirst (map tree_of l.processes) l.first.items
