use Rattle.std.proofs.Common.{◌≡◌, length}
use Rattle.pcml_why_sites.specs.Writing.{could_offer, seen_offers}
use Rattle.pcml_why_sites.proofs.writing.could_offer.Given as goal

abbrev pub invariant-loop-rest : goal.invariant-loop-rest
invariant-loop-rest l = could_offer l.side l.name (seen_offers l.rest) ≡ could_offer l.side l.name (seen_offers l.fn.text)

abbrev pub decreases-loop-rest : goal.decreases-loop-rest
decreases-loop-rest l = length l.rest
