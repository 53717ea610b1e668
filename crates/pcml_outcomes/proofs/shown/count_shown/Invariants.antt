use Rattle.std.proofs.Common.{◌≡◌, ◌≤◌, length, take}
use Rattle.pcml_outcomes.specs.Told.{shown}
use Rattle.pcml_outcomes.proofs.shown.count_shown.Given as goal

abbrev pub invariant-loop-index : goal.invariant-loop-index
invariant-loop-index l = (l.count ≡ length (shown l.asked (take l.index l.outcomes))) × (l.count ≤ l.index)
