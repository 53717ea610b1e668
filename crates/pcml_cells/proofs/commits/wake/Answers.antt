use Rattle.std.proofs.Common.{subst}
use Rattle.protocol_values.specs.declared.Row.{Row}
use Rattle.cell_hand.specs.Calls.{Wakes}
use Rattle.pcml_cells.proofs.InHandles.{by_hand}
use Rattle.pcml_cells.proofs.commits.wake.Goals as goal

pub returns-in-Hand : goal.returns-in-Hand
returns-in-Hand c =
    by_hand c.args.kept.now c.in-Hand.hand c.wake.new.self c.found.result _ c.in-Hand.is (c.wake.result, subst (λ (r : Row). Wakes c.in-Hand.hand c.wake.new.self r c.wake.result) c.read.ensures c.wake.ensures, c.found.ensures)
