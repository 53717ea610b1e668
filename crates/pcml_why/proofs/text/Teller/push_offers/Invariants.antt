use Rattle.std.proofs.Common.{◌≡◌, ◌++◌, take}
use Rattle.std.specs.List.{flat_map}
use Rattle.std.specs.String.{string_bytes}
use Rattle.script.specs.Scripts.{script_of}
use Rattle.pcml_why.specs.Whys.{offer_line, facts_of}
use Rattle.journal_text.specs.Names.{named}
use Rattle.pcml_why.proofs.text.Teller.push_offers.Given as goal

abbrev pub invariant-loop-offer : goal.invariant-loop-offer
invariant-loop-offer l =
    string_bytes l.out ≡ string_bytes l.fn.out ++ flat_map (offer_line (named (script_of l.self.script.now)) (facts_of (script_of l.self.script.now).processes l.self.state.now) l.self.sites.now l.thread) (take l.offer-index l.site.offers.now)
