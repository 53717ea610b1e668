use Rattle.std.proofs.Common.{get_or}
use Rattle.std.specs.String.{string_bytes}
use Rattle.script.specs.Scripts.{script_of}
use Rattle.journal_text.specs.Names.{named}
use Rattle.pcml_answers.specs.Tallies.{channel_text}
use Rattle.pcml_answers.proofs.Pieces.{each_below-more}
use Rattle.pcml_answers.proofs.stats_lines.push_channels.Goals as goal

pub loop-chan-preserved : goal.loop-chan-preserved
loop-chan-preserved c =
    each_below-more (λ x. channel_text (named (script_of c.args.script.now)) x (get_or c.args.uses.now x 0)) c.loop-chan.chan (string_bytes c.args.out.now) (string_bytes c.loop-chan.out) (string_bytes c.push_one_channel.new.out)
    c.loop-chan.invariant c.in_ok-push_one_channel.ensures
