use Rattle.std.proofs.Common.{subst}
use Rattle.protocol_values.specs.declared.Row.{Row}
use Rattle.cell_hand.specs.Calls.{Takes}
use Rattle.pcml_cells.proofs.InHandles.{by_hand}
use Rattle.pcml_cells.proofs.commits.take.Goals as goal

pub returns-in-Hand : goal.returns-in-Hand
returns-in-Hand c =
    by_hand c.args.kept.now c.in-Hand.hand c.take.new.self c.taken.result _ c.in-Hand.is (c.take.result, subst (λ (r : Row). Takes c.in-Hand.hand c.take.new.self r c.take.result) c.read.ensures c.take.ensures, c.taken.ensures)
