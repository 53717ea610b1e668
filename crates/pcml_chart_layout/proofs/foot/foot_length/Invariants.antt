use Rattle.std.proofs.Common.{◌≡◌, length, take}
use Rattle.script.specs.Scripts.{script_of}
use Rattle.journal_text.specs.Names.{named}
use Rattle.journal_text.specs.Offers.{offer_text}
use Rattle.pcml_chart_layout.specs.Seen.{seen}
use Rattle.pcml_chart_layout.specs.Most.{most_by}
use Rattle.pcml_chart_layout.proofs.foot.foot_length.Given as goal

abbrev pub invariant-loop-offer : goal.invariant-loop-offer
invariant-loop-offer l = l.longest ≡ most_by (λ o. length (seen (offer_text (named (script_of l.script)) o.base))) (take l.offer-index l.offer-items)
