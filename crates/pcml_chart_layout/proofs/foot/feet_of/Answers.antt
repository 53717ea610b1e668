use Rattle.journal_replay.proofs.Telling.{holds-more}
use Rattle.pcml_chart_layout.specs.Feet.{TellsFoot}
use Rattle.pcml_chart_layout.proofs.foot.feet_of.Goals as goal

pub loop-thread-preserved : goal.loop-thread-preserved
loop-thread-preserved c =
    holds-more (TellsFoot c.args.state.now) c.loop-thread.thread c.loop-thread.feet.items c.push.new.self.items
    (record { end = c.end.result; printed = c.output.result; offers = c.open.result.0 })
    c.loop-thread.invariant
    (record { end = c.end.ensures; printed = c.output.ensures; nacks = c.open.result.1.now; offers = c.open.ensures.told })
    c.in_ok-push.ensures.items
