-- The offers of a part of an event.
use Rattle.std.specs.Prelude.{ℕ, List, map, bit_or}
use Rattle.event.specs.Tree.{Tree, BaseEvent, bases_from, mask}
use Rattle.protocol_values.specs.declared.Offer.{Offer}

-- the offers of a part of an event: the scopes round it have the mask `around`, its first scope the number `next`
abbrev pub offer_within : ℕ → BaseEvent → Offer
offer_within around b = record { base = b.base; scopes = bit_or around (mask b.scopes) }

abbrev pub offers_within : ℕ → ℕ → Tree → List Offer
offers_within around next event = map (offer_within around) (bases_from next event)
