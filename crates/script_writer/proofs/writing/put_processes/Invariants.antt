use Rattle.std.proofs.Common.{◌≡◌, ◌++◌, take, map}
use Rattle.std.specs.String.{string_bytes}
use Rattle.script_tree.specs.Processes.{proc_of}
use Rattle.script.specs.Scripts.{script_of}
use Rattle.script_writer.specs.Plain.{process_names}
use Rattle.script_writer.specs.Texts.{processes_text}
use Rattle.script_writer.proofs.writing.put_processes.Given as goal

abbrev pub invariant-loop-process : goal.invariant-loop-process
invariant-loop-process l = string_bytes l.out ≡ string_bytes l.fn.out ++ processes_text (script_of l.script).channels (process_names (script_of l.script).processes) (map proc_of (take l.process-index l.processes))
