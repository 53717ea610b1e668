use Rattle.std.proofs.Common.{subst}
use Rattle.protocol_values.specs.declared.Row.{Row}
use Rattle.cell_hand.specs.Calls.{Results}
use Rattle.pcml_cells.proofs.InHandles.{by_hand}
use Rattle.pcml_cells.proofs.rows.result.Goals as goal

pub returns-in-Hand-clause-told : goal.returns-in-Hand-clause-told
returns-in-Hand-clause-told c =
    by_hand c.args.kept.now c.in-Hand.hand c.result.new.self c.tell_message.result _ c.in-Hand.is (c.result.result, subst (λ (r : Row). Results c.in-Hand.hand c.result.new.self r c.result.result) c.read.ensures c.result.ensures, c.tell_message.ensures.number, c.tell_message.ensures.told)
