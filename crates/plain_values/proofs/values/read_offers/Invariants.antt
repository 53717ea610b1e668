use Rattle.std.proofs.Common.{◌≡◌, ◌<◌, ℕ, All, Some, length, slice_get}
use Rattle.protocol_values.specs.Words.{IsOfferInRange}
use Rattle.protocol_values.specs.declared.Offer.{Offer}
use Rattle.plain_values.specs.declared.values.PlainOffer.{PlainOffer}
use Rattle.plain_values.specs.Plain.{IsOffer}
use Rattle.plain_values.proofs.values.read_offers.Given as goal

abbrev pub invariant-loop-n : goal.invariant-loop-n
invariant-loop-n l =
    All IsOfferInRange l.offers × (length l.offers ≡ 8)
    × ((k : ℕ) (p : PlainOffer) → k < l.n → slice_get l.plain k ≡ Some p → (o : Offer) × (slice_get l.offers k ≡ Some o) × IsOffer p o)
