use Rattle.std.proofs.Common.{◌≡◌, take, false}
use Rattle.pcml_why_sites.specs.Knots.{has_next}
use Rattle.pcml_why_sites.proofs.knot.has_next.Given as goal

abbrev pub invariant-loop-pair : goal.invariant-loop-pair
invariant-loop-pair l = has_next (take l.pair-index l.pairs) l.members l.a ≡ false
