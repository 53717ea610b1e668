use Rattle.std.proofs.Common.{◌≡◌, take, false}
use Rattle.std.specs.List.{list_any}
use Rattle.protocol_values.specs.Values.{is_on}
use Rattle.pcml_why_sites.proofs.site.offers_on.Given as goal

abbrev pub invariant-loop-offer : goal.invariant-loop-offer
invariant-loop-offer l = list_any (λ o. is_on l.side l.chan o.base) (take l.offer-index l.site.offers.now) ≡ false
