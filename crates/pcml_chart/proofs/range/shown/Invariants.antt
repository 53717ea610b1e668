use Rattle.std.proofs.Common.{◌≡◌, take}
use Rattle.pcml_chart.specs.Range.{shown}
use Rattle.pcml_chart.proofs.range.shown.Given as goal

abbrev pub invariant-loop-commit : goal.invariant-loop-commit
invariant-loop-commit l = l.found.items ≡ shown l.from l.below (take l.commit-index l.commits)
