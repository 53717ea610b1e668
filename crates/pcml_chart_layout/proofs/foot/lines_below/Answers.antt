use Rattle.std.proofs.Common.{ap₂, sym, ◌∙◌}
use Rattle.std.specs.Prelude.{max}
use Rattle.pcml_chart_layout.specs.Feet.{offers_below}
use Rattle.pcml_chart_layout.proofs.Greatest.{most_below-more}
use Rattle.pcml_chart_layout.proofs.foot.lines_below.Goals as goal

pub loop-thread-preserved : goal.loop-thread-preserved
loop-thread-preserved c =
    c.max-most.ensures ∙ ap₂ max c.offers_below.ensures c.loop-thread.invariant ∙ sym (most_below-more (offers_below c.args.columns.now.own.now c.args.feet.now) c.loop-thread.thread)
