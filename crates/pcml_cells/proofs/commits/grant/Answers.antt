use Rattle.std.proofs.Common.{subst, ℕ}
use Rattle.std.specs.Prelude.{min}
use Rattle.protocol_values.specs.declared.Row.{Row}
use Rattle.cell_hand.specs.Calls.{Grants}
use Rattle.pcml_cells.proofs.InHandles.{by_hand}
use Rattle.pcml_cells.proofs.commits.grant.Goals as goal

pub returns-in-Hand : goal.returns-in-Hand
returns-in-Hand c =
    by_hand c.args.kept.now c.in-Hand.hand c.grant.new.self c.granted.result _ c.in-Hand.is (c.grant.result, subst (λ (r : Row). Grants c.in-Hand.hand c.grant.new.self r (min c.args.offer 255) c.grant.result) c.read.ensures (subst (λ (n : ℕ). Grants c.in-Hand.hand c.grant.new.self c.read.result n c.grant.result) c.small.ensures c.grant.ensures), c.granted.ensures)
