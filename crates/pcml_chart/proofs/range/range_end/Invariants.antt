use Rattle.std.proofs.Common.{◌+◌, ◌-◌, ◌<◌, ◌≤◌}
use Rattle.pcml_chart.specs.Range.{count_shown}
use Rattle.pcml_chart.proofs.range.range_end.Given as goal

-- the range shows few enough commits up to the one, and too many up to the other
abbrev pub invariant-loop-few : goal.invariant-loop-few
invariant-loop-few l =
    (l.many ≤ l.to + 1) × (l.few < l.many) × (count_shown l.from l.few l.commits ≤ 1250) × (1250 < count_shown l.from l.many l.commits)

abbrev pub decreases-loop-few : goal.decreases-loop-few
decreases-loop-few l = l.many - l.few
