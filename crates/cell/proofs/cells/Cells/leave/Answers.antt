use Rattle.std.proofs.Common.{ap, ◌∙◌, ◌++◌, ◌∷◌, []}
use Rattle.cell.specs.Calls.{GathererOf, PassOf}
use Rattle.cell_table.specs.declared.view.View.{View}
use Rattle.cell.proofs.cells.Cells.leave.Goals as goal

pub returns-clause-results : goal.returns-clause-results
returns-clause-results g c =
    let from = ap (λ (p : PassOf g.row.M.Denot). p.results) c.from.view_is in
    let to = ap (λ (p : GathererOf g.row.M.Denot). p.pass.results) c.to.view_is in
    ap (λ (v : View _). v.results) c.leave.ensures.to ∙ (λ i. to i ++ from i)

pub returns-clause-gathered : goal.returns-clause-gathered
returns-clause-gathered g c =
    let from = ap (λ (p : PassOf g.row.M.Denot). p.made) c.from.view_is in
    let to = ap (λ (p : GathererOf g.row.M.Denot). p.gathered) c.to.view_is in
    (c.from.inside.seat.me.0.seat, ap (λ (v : View _). v.gathered) c.leave.ensures.to ∙ (λ i. to i ++ (c.from.inside.seat.me.0.seat, from i) ∷ []))
