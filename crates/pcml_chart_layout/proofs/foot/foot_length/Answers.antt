use Rattle.std.proofs.Common.{ℕ, List, length, max, ap, ap₂, ◌∙◌, take_all}
use Rattle.script.specs.Scripts.{script_of}
use Rattle.journal_text.specs.Names.{named}
use Rattle.protocol_values.specs.declared.Offer.{Offer}
use Rattle.journal_text.specs.Offers.{offer_text}
use Rattle.pcml_chart_layout.specs.Seen.{seen}
use Rattle.pcml_chart_layout.specs.Most.{most_by}
use Rattle.pcml_chart_layout.proofs.Greatest.{most_by-step}
use Rattle.pcml_chart_layout.proofs.foot.foot_length.Goals as goal

pub loop-offer-preserved : goal.loop-offer-preserved
loop-offer-preserved c =
    most_by-step (λ (o : Offer). length (seen (offer_text (named (script_of c.args.script.now)) o.base))) c.offers_of-offer-items.result.now c.loop-offer.offer-index _ c.loop-offer.longest c.max-longest.result c.loop-offer-test.true
    c.loop-offer.invariant
    (c.max-longest.ensures ∙ ap (λ (n : ℕ). max n c.loop-offer.longest) (c.seen_length.ensures ∙ ap (λ (t : List ℕ). length (seen t)) (c.deref.ensures ∙ c.in_ok-offer_text.ensures)))

pub returns : goal.returns
returns c =
    let f : Offer → ℕ = λ o. length (seen (offer_text (named (script_of c.args.script.now)) o.base)) in
    c.max.ensures
    ∙ ap₂ max (c.seen_length-2.ensures ∙ ap (λ (t : List ℕ). length (seen t)) (c.deref-2.ensures ∙ c.in_ok-stand_text.ensures))
    (c.loop-offer.invariant ∙ ap (most_by f) (take_all c.loop-offer.offer-index c.offers_of-offer-items.result.now c.loop-offer-test.false ∙ c.offers_of-offer-items.ensures))
