use Rattle.protocol_values.proofs.WordLemmas.{IsBaseInRange-base_of}
use Rattle.protocol_values.proofs.packing.unpack_offer.Goals as goal

pub returns-clause-in_range : goal.returns-clause-in_range
returns-clause-in_range c =
    let head = c.in_ok-head.ensures.sound.0 in
    record {
      base = rw c.base_of.ensures
          (IsBaseInRange-base_of c.in_ok-head.head.direction c.in_ok-first.first c.in_ok-second.second c.in_ok-third.third
          head.direction c.in_ok-first.ensures.sound.0 c.in_ok-second.ensures.sound.0 c.in_ok-third.ensures.sound.0);
      scopes = head.scopes;
    }
