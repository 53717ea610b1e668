use Rattle.std.proofs.Common.{subst}
use Rattle.protocol_values.specs.declared.Row.{Row}
use Rattle.cell_hand.specs.Calls.{Answers}
use Rattle.pcml_cells.proofs.InHandles.{by_hand}
use Rattle.pcml_cells.proofs.rows.answer.Goals as goal

pub returns-in-Hand-clause-told : goal.returns-in-Hand-clause-told
returns-in-Hand-clause-told c =
    by_hand c.args.kept.now c.in-Hand.hand c.answer.new.self c.tell_answer.result _ c.in-Hand.is (c.answer.result, subst (λ (r : Row). Answers c.in-Hand.hand c.answer.new.self r c.answer.result) c.read.ensures c.answer.ensures, c.tell_answer.ensures.number, c.tell_answer.ensures.told)
