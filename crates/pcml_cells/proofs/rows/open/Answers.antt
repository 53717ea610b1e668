use Rattle.std.proofs.Common.{subst}
use Rattle.protocol_values.specs.declared.Row.{Row}
use Rattle.cell_hand.specs.Calls.{Opens}
use Rattle.pcml_cells.proofs.InHandles.{by_hand}
use Rattle.pcml_cells.proofs.rows.open.Goals as goal

pub returns-in-Hand : goal.returns-in-Hand
returns-in-Hand c =
    by_hand c.args.kept.now c.in-Hand.hand c.open.new.self c.done.result _ c.in-Hand.is (c.open.result, subst (λ (r : Row). Opens c.in-Hand.hand c.open.new.self r c.open.result) c.read.ensures c.open.ensures, c.done.ensures)
