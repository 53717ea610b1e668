use Rattle.std.proofs.Common.{◌≡◌, take, false}
use Rattle.pcml_why_sites.specs.Knots.{has_former}
use Rattle.pcml_why_sites.proofs.knot.has_former.Given as goal

abbrev pub invariant-loop-pair : goal.invariant-loop-pair
invariant-loop-pair l = has_former (take l.pair-index l.pairs) l.members l.a ≡ false
