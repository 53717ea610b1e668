use Rattle.std.proofs.Common.{◌≡◌, false, take}
use Rattle.std.specs.List.{list_any}
use Rattle.pcml_outcomes.specs.Told.{has_stuck}
use Rattle.pcml_outcomes.proofs.finding.any_stuck.Given as goal

abbrev pub invariant-loop-outcome : goal.invariant-loop-outcome
invariant-loop-outcome l = list_any (has_stuck l.told) (take l.outcome-index l.outcomes) ≡ false
