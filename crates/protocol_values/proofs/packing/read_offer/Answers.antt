use Rattle.protocol_values.proofs.WordLemmas.{offer_of-fields}
use Rattle.protocol_values.proofs.packing.read_offer.Goals as goal

pub returns : goal.returns
returns c =
    rw (c.read_base.ensures, c.head_fields-said.ensures.value)
    (offer_of-fields c.args.head c.args.first c.args.second c.args.third c.requires)
