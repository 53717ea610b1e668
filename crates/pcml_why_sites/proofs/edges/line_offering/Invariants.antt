use Rattle.std.proofs.Common.{◌≡◌, length}
use Rattle.pcml_why_sites.specs.Edges.{line_offering}
use Rattle.pcml_why_sites.specs.Writing.{seen_offers}
use Rattle.pcml_why_sites.proofs.edges.line_offering.Given as goal

abbrev pub invariant-loop-rest : goal.invariant-loop-rest
invariant-loop-rest l = line_offering l.side l.name (seen_offers l.rest) ≡ line_offering l.side l.name (seen_offers l.fn.text)

abbrev pub decreases-loop-rest : goal.decreases-loop-rest
decreases-loop-rest l = length l.rest
