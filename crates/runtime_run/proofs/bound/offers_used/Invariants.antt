use Rattle.std.proofs.Common.{◌≡◌, ◌<◌, ◌≤◌, ◌↔◌, ℕ, map, slice_get, Some}
use Rattle.script_tree.specs.Processes.{Proc, proc_of}
use Rattle.runtime_worker.specs.Widths.{OffersAtMost}
use Rattle.runtime_run.proofs.bound.offers_used.Given as goal

-- of the processes before this one
abbrev pub invariant-loop-process : goal.invariant-loop-process
invariant-loop-process l = record {
  range : (1 ≤ l.most) × (l.most ≤ 8);
  most : (k : ℕ) → 1 ≤ k → ((s : ℕ) (p : Proc) → s < l.process-index → slice_get (map proc_of l.processes) s ≡ Some p → OffersAtMost k p.body) ↔ (l.most ≤ k);
}
