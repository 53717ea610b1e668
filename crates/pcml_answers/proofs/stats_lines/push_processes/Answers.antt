use Rattle.std.proofs.Common.{get_or}
use Rattle.std.specs.String.{string_bytes}
use Rattle.script.specs.Scripts.{script_of}
use Rattle.journal_text.specs.Names.{named}
use Rattle.pcml_answers.specs.Tallies.{nothing, process_text}
use Rattle.pcml_answers.proofs.Pieces.{each_below-more}
use Rattle.pcml_answers.proofs.stats_lines.push_processes.Goals as goal

pub loop-thread-preserved : goal.loop-thread-preserved
loop-thread-preserved c =
    each_below-more (λ t. process_text (named (script_of c.args.script.now)) t (get_or c.args.tallies.now t nothing)) c.loop-thread.thread (string_bytes c.args.out.now) (string_bytes c.loop-thread.out) (string_bytes c.push_process.new.out)
    c.loop-thread.invariant c.in_ok-push_process.ensures
