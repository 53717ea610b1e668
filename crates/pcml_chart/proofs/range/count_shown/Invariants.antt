use Rattle.std.proofs.Common.{◌≡◌, ◌≤◌, take}
use Rattle.pcml_chart.specs.Range.{count_shown}
use Rattle.pcml_chart.proofs.range.count_shown.Given as goal

abbrev pub invariant-loop-commit : goal.invariant-loop-commit
invariant-loop-commit l = (l.count ≡ count_shown l.from l.below (take l.commit-index l.commits)) × (l.count ≤ l.commit-index)
