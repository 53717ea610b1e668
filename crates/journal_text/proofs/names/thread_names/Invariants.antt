use Rattle.std.proofs.Common.{◌≡◌, take, map}
use Rattle.script_reader.specs.Places.{texts}
use Rattle.script_tree.specs.Processes.{proc_of}
use Rattle.journal_text.proofs.names.thread_names.Given as goal

abbrev pub invariant-loop-process : goal.invariant-loop-process
invariant-loop-process l = texts l.names.items ≡ map (λ p. (proc_of p).name) (take l.process-index l.process-items)
