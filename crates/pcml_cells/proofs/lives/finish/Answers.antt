use Rattle.std.proofs.Common.{subst}
use Rattle.protocol_values.specs.declared.Row.{Row}
use Rattle.cell_hand.specs.Calls.{Finishes}
use Rattle.pcml_cells.proofs.InHandles.{by_hand}
use Rattle.pcml_cells.proofs.lives.finish.Goals as goal

pub returns-in-Hand : goal.returns-in-Hand
returns-in-Hand c =
    by_hand c.args.kept.now c.in-Hand.hand c.finish.new.self c.done.result _ c.in-Hand.is (c.finish.result, subst (λ (r : Row). Finishes c.in-Hand.hand c.finish.new.self r c.finish.result) c.read.ensures c.finish.ensures, c.done.ensures)
