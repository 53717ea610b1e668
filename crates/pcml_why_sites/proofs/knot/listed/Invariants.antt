use Rattle.std.proofs.Common.{◌≡◌, get_or, false}
use Rattle.pcml_why_sites.specs.Knots.{members_below}
use Rattle.pcml_why_sites.proofs.knot.listed.Given as goal

abbrev pub invariant-loop-a : goal.invariant-loop-a
invariant-loop-a l = l.listed.items ≡ members_below (λ a. get_or l.members a false) l.a
