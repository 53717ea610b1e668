use Rattle.std.proofs.Common.{◌≡◌, take}
use Rattle.pcml_chart.specs.Range.{greatest}
use Rattle.pcml_chart.proofs.range.greatest.Given as goal

abbrev pub invariant-loop-commit : goal.invariant-loop-commit
invariant-loop-commit l = l.greatest ≡ greatest (take l.commit-index l.commits)
