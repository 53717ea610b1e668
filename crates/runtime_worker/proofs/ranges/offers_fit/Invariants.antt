use Rattle.std.proofs.Common.{◌≡◌, ℕ, ◌<◌, Some}
use Rattle.std.specs.Prelude.{slice_get}
use Rattle.protocol_values.specs.Words.{IsOfferInRange}
use Rattle.protocol_values.specs.declared.Offer.{Offer}
use Rattle.runtime_worker.proofs.ranges.offers_fit.Given as goal

abbrev pub invariant-loop-offer : goal.invariant-loop-offer
invariant-loop-offer l = (k : ℕ) (o : Offer) → k < l.offer-index → slice_get l.offers k ≡ Some o → IsOfferInRange o
