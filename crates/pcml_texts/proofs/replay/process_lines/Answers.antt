use Rattle.std.proofs.Common.{refl}
use Rattle.std.specs.String.{string_bytes}
use Rattle.script.specs.Scripts.{script_of}
use Rattle.pcml_answers.proofs.Lines.{one_line}
use Rattle.pcml_texts.proofs.Replaying.{TellsOne}
use Rattle.journal_text.specs.Names.{named}
use Rattle.pcml_texts.proofs.replay.process_lines.Goals as goal

pub loop-thread-preserved : goal.loop-thread-preserved
loop-thread-preserved c =
    one_line (named (script_of c.args.script.now)) (TellsOne c.args.state.now) c.loop-thread.thread (string_bytes c.loop-thread.lines) (string_bytes c.push_process.new.out)
    (record { thread = c.loop-thread.thread; end = c.end.result; printed = c.output.result.now })
    c.loop-thread.invariant (refl, c.end.ensures, c.output.ensures) c.in_ok-push_process.ensures
