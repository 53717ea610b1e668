use Rattle.std.proofs.Common.{rules}
use Rattle.std.proofs.lemmas.Fn.{filter_same}
use Rattle.engine.proofs.Listing.{sifts-filter}
use Rattle.engine.proofs.lines.make_room.Goals as goal

pub returns-then-is_full-clause-sifts : goal.returns-then-is_full-clause-sifts
returns-then-is_full-clause-sifts c = sifts-filter _ _ _ (filter_same _ _ _ (λ x b f' k. search rules) _ _ c.sift.ensures.sifted)
