use Rattle.protocol_values.proofs.WordLemmas.{offer_of-offer_words}
use Rattle.protocol_values.proofs.packing.pack_offer.Goals as goal

pub returns-clause-back : goal.returns-clause-back
returns-clause-back c =
    rw (c.message_words.ensures, c.pack_head.ensures, c.head_in.ensures, c.message_in.ensures)
    (offer_of-offer_words c.args.offer c.requires)
