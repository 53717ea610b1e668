use Rattle.std.specs.String.{string_bytes}
use Rattle.script.specs.Scripts.{script_of}
use Rattle.journal_text.specs.Names.{named}
use Rattle.pcml_answers.proofs.Pieces.{all_told}
use Rattle.pcml_answers.proofs.stats.stats_text.Goals as goal

pub returns : goal.returns
returns c =
    all_told (named (script_of c.args.script.now)) (script_of c.args.script.now) c.args.journal.now c.in_ok-tallies.tallies c.deref.result.now c.deref-2.result.now
    (string_bytes c.new-out.result) (string_bytes c.push_processes.new.out) (string_bytes c.push_channels.new.out) (string_bytes c.push_total.new.out)
    c.in_ok-tallies.ensures c.deref.ensures.value c.deref-2.ensures.value c.new-out.ensures.bytes
    c.in_ok-push_processes.ensures c.in_ok-push_channels.ensures c.in_ok-push_total.ensures
