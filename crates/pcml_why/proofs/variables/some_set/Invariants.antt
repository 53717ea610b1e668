use Rattle.std.proofs.Common.{◌≡◌, false, take}
use Rattle.pcml_why.specs.Variables.{some_set}
use Rattle.pcml_why.proofs.variables.some_set.Given as goal

abbrev pub invariant-loop-value : goal.invariant-loop-value
invariant-loop-value l = some_set (take l.value-index l.variables) ≡ false
