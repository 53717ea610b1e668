use Rattle.std.proofs.Common.{subst, sym, ◌↔◌, IsTrue}
use Rattle.protocol_values.specs.declared.Row.{Row}
use Rattle.plain_values.specs.Plain.{row_in}
use Rattle.cell.specs.Calls.{HoldsAt}
use Rattle.cell_hand.specs.declared.kept.Kept.{Kept}
use Rattle.pcml_cells.specs.Answers.{HoldsIn}
use Rattle.pcml_cells.proofs.rows.holds.Goals as goal

pub returns-in-Hand : goal.returns-in-Hand
returns-in-Hand c =
    subst (λ (k : Kept). IsTrue c.holds.result ↔ HoldsIn k (row_in c.args.row)) (sym c.in-Hand.is)
    (subst (λ (r : Row). IsTrue c.holds.result ↔ HoldsAt c.in-Hand.hand.pass r) c.read.ensures c.holds.ensures)
