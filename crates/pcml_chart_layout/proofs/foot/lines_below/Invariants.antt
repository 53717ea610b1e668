use Rattle.std.proofs.Common.{◌≡◌}
use Rattle.pcml_chart_layout.specs.Feet.{offers_below}
use Rattle.pcml_chart_layout.specs.Most.{most_below}
use Rattle.pcml_chart_layout.proofs.foot.lines_below.Given as goal

abbrev pub invariant-loop-thread : goal.invariant-loop-thread
invariant-loop-thread l = l.most ≡ most_below l.thread (offers_below l.columns.own.now l.feet)
