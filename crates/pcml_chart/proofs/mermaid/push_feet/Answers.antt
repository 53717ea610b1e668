use Rattle.script.specs.Scripts.{script_of}
use Rattle.journal_text.specs.Names.{named}
use Rattle.pcml_chart_layout.specs.Laid.{own_of}
use Rattle.pcml_chart.specs.Mermaid.{foot_of}
use Rattle.pcml_chart.proofs.Pieces.{each_below-more}
use Rattle.pcml_chart.proofs.mermaid.push_feet.Goals as goal

pub loop-thread-preserved : goal.loop-thread-preserved
loop-thread-preserved c =
    each_below-more (foot_of (named (script_of c.args.script.now)) (own_of c.args.columns.now) c.args.feet.now) c.loop-thread.thread c.args.out.now.items c.loop-thread.out.items c.push_foot.new.out.items
    c.loop-thread.invariant c.in_ok-push_foot.ensures
