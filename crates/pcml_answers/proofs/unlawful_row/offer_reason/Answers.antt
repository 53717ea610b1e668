use Rattle.std.proofs.Common.{◌≡◌, ℕ, true, List, length, get_or, ltb, slice_get, Some, refl, sym, ◌∙◌, subst}
use Rattle.std.proofs.lemmas.Bool.{false≢true, ltb-true}
use Rattle.std.proofs.lemmas.Option.{slice_get_read}
use Rattle.protocol_values.specs.declared.Offer.{Offer}
use Rattle.protocol_values.proofs.Equality.{bases}
use Rattle.pcml_answers.proofs.unlawful_row.offer_reason.Goals as goal

read-at : (os : List Offer) (i n : ℕ) (o : Offer) → true ≡ ltb i (length os) → o ≡ get_or os i o → i ≡ n → slice_get os n ≡ Some o
read-at os i n o within is at = subst (λ (k : ℕ). slice_get os k ≡ Some o) at (slice_get_read os (length os) i o refl (ltb-true i (length os) (sym within)) is)

pub returns-then-eq : goal.returns-then-eq
returns-then-eq c =
    let offer = c.in-Some.offer.now in
    let found = c.in-Some.ensures.lookup in
    (offer, read-at c.args.offers.now c.from.result c.args.at.1 offer found.0 found.1 c.from.ensures, (bases offer.base c.args.needed).0 (sym c.eq.ensures ∙ c.if-eq.true))

pub returns : goal.returns
returns c =
    let offer = c.in-Some.offer.now in
    let found = c.in-Some.ensures.lookup in (
      refl,
      refl,
      (offer, read-at c.args.offers.now c.from.result c.args.at.1 offer found.0 found.1 c.from.ensures, refl),
      λ same. false≢true (sym c.if-eq.false ∙ c.eq.ensures ∙ (bases offer.base c.args.needed).1 same),
    )
