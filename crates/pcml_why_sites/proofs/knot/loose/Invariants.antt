use Rattle.std.proofs.Common.{◌≡◌, ℕ, ◌<◌, get_or, true, false}
use Rattle.pcml_why_sites.specs.Knots.{is_held}
use Rattle.pcml_why_sites.proofs.knot.loose.Given as goal

abbrev pub invariant-loop-a : goal.invariant-loop-a
invariant-loop-a l = (k : ℕ) → k < l.a → get_or l.members k false ≡ true → is_held l.pairs l.members k ≡ true
