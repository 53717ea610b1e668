use Rattle.std.proofs.Common.{◌≡◌, None, take}
use Rattle.std.specs.List.{find}
use Rattle.pcml_outcomes.specs.Told.{is_shown}
use Rattle.pcml_outcomes.proofs.asked.first_shown.Given as goal

abbrev pub invariant-loop-index : goal.invariant-loop-index
invariant-loop-index l = find (is_shown l.asked) (take l.index l.outcomes) ≡ None
