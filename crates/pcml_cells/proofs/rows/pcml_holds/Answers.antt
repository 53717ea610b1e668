use Rattle.std.proofs.Common.{subst, sym, ◌↔◌, IsTrue}
use Rattle.plain_values.specs.Plain.{row_in}
use Rattle.cell_hand.specs.declared.kept.Kept.{Kept}
use Rattle.pcml_cells.specs.Owned.{InHandle}
use Rattle.pcml_cells.specs.Answers.{Holds, HoldsIn}
use Rattle.pcml_cells.proofs.rows.pcml_holds.Goals as goal

pub returns-clause-holds : goal.returns-clause-holds
returns-clause-holds c =
    let row = row_in c.args.row in
    subst (λ (x : InHandle). IsTrue c.holds-answer.result ↔ Holds x row) (sym c.in-Some.ensures.some)
    (subst (λ (k : Kept). IsTrue c.holds-answer.result ↔ HoldsIn k row) c.deref.ensures c.holds-answer.ensures)
