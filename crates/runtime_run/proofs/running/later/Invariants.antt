use Rattle.std.proofs.Common.{◌≡◌, ◌<◌, ℕ, false, map, slice_get, Some}
use Rattle.script_tree.specs.Processes.{Proc, proc_of}
use Rattle.script_tree.specs.Spawning.{has_bit, spawns_block}
use Rattle.runtime_run.proofs.running.later.Given as goal

-- of the processes before this one
abbrev pub invariant-loop-process : goal.invariant-loop-process
invariant-loop-process l =
    (t s : ℕ) (p : Proc) → t < 64 → has_bit l.later t ≡ false → s < l.process-index → slice_get (map proc_of l.processes) s ≡ Some p → spawns_block t p.body ≡ false
