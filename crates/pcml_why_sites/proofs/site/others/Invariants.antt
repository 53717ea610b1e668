use Rattle.std.proofs.Common.{◌≡◌}
use Rattle.pcml_why_sites.specs.Offering.{others_below}
use Rattle.pcml_why_sites.proofs.site.others.Given as goal

abbrev pub invariant-loop-other : goal.invariant-loop-other
invariant-loop-other l = l.found.items ≡ others_below l.sites l.side l.chan l.thread l.other
