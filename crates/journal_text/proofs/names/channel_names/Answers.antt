use Rattle.std.proofs.Common.{◌∙◌, ap, arith}
use Rattle.std.proofs.lemmas.List.{take_all}
use Rattle.script_reader.specs.Places.{texts}
use Rattle.script.specs.Scripts.{script_of}
use Rattle.journal_text.proofs.Lookup.{one_more}
use Rattle.journal_text.proofs.names.channel_names.Goals as goal

pub loop-c-preserved : goal.loop-c-preserved
loop-c-preserved c = ap texts c.in_ok-push.ensures.items ∙ one_more c.loop-c.names.items c.channel_name.result (script_of c.args.script.now).channels c.loop-c.c c.loop-c.invariant c.channel_name.ensures

pub returns-clause-value : goal.returns-clause-value
returns-clause-value c = c.loop-c.invariant ∙ take_all c.loop-c.c (script_of c.args.script.now).channels (omega (arith, c.loop-c-test.false, c.channels-c-end.ensures))
