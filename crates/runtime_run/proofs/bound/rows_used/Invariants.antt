use Rattle.std.proofs.Common.{◌≡◌, ◌<◌, ℕ, map, slice_get, Some}
use Rattle.script_tree.specs.Processes.{Proc, proc_of}
use Rattle.runtime_run.specs.Syncs.{BlockSyncsAtMost}
use Rattle.runtime_run.proofs.bound.rows_used.Given as goal

-- of the processes before this one
abbrev pub invariant-loop-process : goal.invariant-loop-process
invariant-loop-process l = (s : ℕ) (p : Proc) → l.most < 4294967295 → s < l.process-index → slice_get (map proc_of l.processes) s ≡ Some p → BlockSyncsAtMost l.most p.body
