use Rattle.std.proofs.Common.{ℕ, List, ◌++◌, ◌∙◌, sym, ap}
use Rattle.std.specs.String.{string_bytes}
use Rattle.script_tree.specs.Processes.{proc_of}
use Rattle.script.specs.Scripts.{script_of}
use Rattle.script_writer.specs.Plain.{process_names}
use Rattle.script_writer.specs.Texts.{process_text}
use Rattle.script_writer.proofs.Lists.{processes_more}
use Rattle.script_writer.proofs.writing.put_processes.Goals as goal

pub loop-process-preserved : goal.loop-process-preserved
loop-process-preserved c =
    let channels = (script_of c.args.script.now).channels in
    let names = process_names (script_of c.args.script.now).processes in
    let p = c.process-item.result in
    let more = processes_more channels names c.processes-processes.result.now c.loop-process.process-index p (string_bytes c.args.out.now) c.loop-process-test.true c.process-item.is in
    c.in_ok-put_process.ensures ∙ ap (λ (y : List ℕ). y ++ process_text channels names (proc_of p)) c.loop-process.invariant ∙ sym more
