use Rattle.std.proofs.Common.{◌≡◌, map, take}
use Rattle.script_tree.specs.Processes.{proc_of}
use Rattle.pcml_answers.specs.Needs.{is_in}
use Rattle.pcml_answers.proofs.need.are_in.Given as goal

abbrev pub invariant-loop-process : goal.invariant-loop-process
invariant-loop-process l = l.named.items ≡ map (λ p. is_in (proc_of p).name l.names) (take l.process-index l.processes)
