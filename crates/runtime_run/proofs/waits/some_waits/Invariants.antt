use Rattle.std.proofs.Common.{◌≡◌, false, map, take}
use Rattle.std.specs.List.{list_any}
use Rattle.script_tree.specs.Processes.{proc_of}
use Rattle.runtime_run.specs.Waiting.{waits_block}
use Rattle.runtime_run.proofs.waits.some_waits.Given as goal

abbrev pub invariant-loop-process : goal.invariant-loop-process
invariant-loop-process l = list_any (λ p. waits_block l.what p.body) (map proc_of (take l.process-index l.processes)) ≡ false
