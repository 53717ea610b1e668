-- What meets what.
use Rattle.std.specs.Prelude.{◌≡◌, Option, Some, None}
use Rattle.engine.specs.declared.offers.Offer.{Offer}
use Rattle.engine.specs.declared.offers.Offer.TheVariants.{Send, Receive, Latch, Always}

-- the offer that it meets
abbrev pub other_side : Offer → Option Offer
other_side (Send channel) = Some (Receive channel)
other_side (Receive channel) = Some (Send channel)
other_side (Latch latch) = None
other_side Always = None

abbrev pub Meets : Offer → Offer → Type 0
Meets own other = other_side own ≡ Some other
