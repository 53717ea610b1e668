use Rattle.std.proofs.Common.{◌≡◌, length}
use Rattle.std.specs.List.{count_by}
use Rattle.pcml_why_sites.proofs.Knotting.{IsWide}
use Rattle.pcml_why_sites.proofs.knot.greatest_knot.Given as goal

abbrev pub invariant-loop-a : goal.invariant-loop-a
invariant-loop-a l = record { count : length l.members.items ≡ l.count; wide : IsWide l.count l.pairs l.members.items }

abbrev pub decreases-loop-a : goal.decreases-loop-a
decreases-loop-a l = count_by (λ b. b) l.members.items
