use Rattle.std.proofs.Common.{◌≡◌, take, false}
use Rattle.std.specs.List.{list_any}
use Rattle.pcml_why_sites.specs.Offering.{offers_on}
use Rattle.pcml_why.proofs.served.is_offered.Given as goal

abbrev pub invariant-loop-site : goal.invariant-loop-site
invariant-loop-site l = list_any (offers_on l.side l.chan) (take l.site-index l.sites) ≡ false
