use Rattle.std.proofs.Common.{◌≡◌, false, take}
use Rattle.std.specs.List.{list_any}
use Rattle.script_tree.specs.Processes.{proc_of}
use Rattle.script_token.specs.Tokens.{same}
use Rattle.pcml_answers.proofs.need.is_process.Given as goal

abbrev pub invariant-loop-process : goal.invariant-loop-process
invariant-loop-process l = list_any (λ p. same (proc_of p).name l.name) (take l.process-index l.processes) ≡ false
