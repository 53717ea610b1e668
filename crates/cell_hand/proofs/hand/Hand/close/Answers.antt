use Rattle.std.proofs.Common.{subst}
use Rattle.std.specs.Prelude.{◌≡◌, ℕ, Some}
use Rattle.protocol_values.specs.declared.Offer.{Offer}
use Rattle.protocol_values.specs.declared.Row.{Row}
use Rattle.protocol_ledger.specs.Ledgers.{offer_in}
use Rattle.cell_table.specs.Sight.{SeesOffer}
use Rattle.cell_hand.specs.Hands.{HandOf}
use Rattle.cell_hand.proofs.hand.Hand.close.Goals as goal

pub returns-in-Ok-clause-offers : goal.returns-in-Ok-clause-offers
returns-in-Ok-clause-offers c =
    subst (λ (h : HandOf). (r : Row) (n : ℕ) (o : Offer) → SeesOffer h.pass.seen r n o → offer_in c.close.result r n ≡ Some o) c.self.view_is c.close.ensures.offers
