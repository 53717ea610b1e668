use Rattle.std.specs.String.{string_bytes}
use Rattle.script.specs.Scripts.{script_of}
use Rattle.pcml_chart.specs.Chart.{foot_mark}
use Rattle.pcml_chart_layout.specs.Laid.{laid}
use Rattle.pcml_chart.proofs.Pieces.{each_below-more}
use Rattle.journal_text.specs.Names.{named}
use Rattle.pcml_chart.proofs.foot.push_feet.Goals as goal

pub loop-thread-preserved : goal.loop-thread-preserved
loop-thread-preserved c =
    each_below-more (foot_mark (named (script_of c.args.script.now)) (laid c.args.layout.now) c.args.feet.now c.args.low) c.loop-thread.thread (string_bytes c.args.out.now) (string_bytes c.loop-thread.out) (string_bytes c.push_foot_mark.new.out)
    c.loop-thread.invariant c.in_ok-push_foot_mark.ensures
