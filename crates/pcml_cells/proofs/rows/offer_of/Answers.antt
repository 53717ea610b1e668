use Rattle.std.proofs.Common.{subst, ℕ}
use Rattle.std.specs.Prelude.{min}
use Rattle.protocol_values.specs.declared.Row.{Row}
use Rattle.cell_hand.specs.Calls.{Reads}
use Rattle.pcml_cells.proofs.InHandles.{by_hand}
use Rattle.pcml_cells.proofs.rows.offer_of.Goals as goal

pub returns-in-Hand-clause-told : goal.returns-in-Hand-clause-told
returns-in-Hand-clause-told c =
    by_hand c.args.kept.now c.in-Hand.hand c.offer.new.self c.tell_offer.result _ c.in-Hand.is (c.offer.result, subst (λ (r : Row). Reads c.in-Hand.hand c.offer.new.self r (min c.args.number 255) c.offer.result) c.read.ensures (subst (λ (n : ℕ). Reads c.in-Hand.hand c.offer.new.self c.read.result n c.offer.result) c.small.ensures c.offer.ensures), c.tell_offer.ensures.number, c.tell_offer.ensures.told)
