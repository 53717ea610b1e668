use Rattle.std.proofs.Common.{subst}
use Rattle.protocol_values.specs.declared.Row.{Row}
use Rattle.cell_hand.specs.Calls.{Looks}
use Rattle.pcml_cells.proofs.InHandles.{by_hand}
use Rattle.pcml_cells.proofs.rows.look.Goals as goal

pub returns-in-Hand : goal.returns-in-Hand
returns-in-Hand c =
    by_hand c.args.kept.now c.in-Hand.hand c.look.new.self c.celled.result _ c.in-Hand.is (c.look.result, subst (λ (r : Row). Looks c.in-Hand.hand c.look.new.self r c.look.result) c.read.ensures c.look.ensures, c.celled.ensures)
