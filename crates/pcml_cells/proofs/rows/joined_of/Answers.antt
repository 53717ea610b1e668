use Rattle.std.proofs.Common.{subst}
use Rattle.protocol_values.specs.declared.Row.{Row}
use Rattle.cell_hand.specs.Calls.{Looks}
use Rattle.pcml_cells.proofs.InHandles.{by_hand}
use Rattle.pcml_cells.proofs.rows.joined_of.Goals as goal

pub returns-in-Hand-clause-told : goal.returns-in-Hand-clause-told
returns-in-Hand-clause-told c =
    by_hand c.args.kept.now c.in-Hand.hand c.look.new.self c.tell_joined.result _ c.in-Hand.is (c.look.result, subst (λ (r : Row). Looks c.in-Hand.hand c.look.new.self r c.look.result) c.read.ensures c.look.ensures, c.tell_joined.ensures.number, c.tell_joined.ensures.told)
