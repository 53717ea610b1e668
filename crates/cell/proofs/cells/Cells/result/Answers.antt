use Rattle.std.proofs.Common.{sym, subst}
use Rattle.cell.specs.Calls.{PassOf}
use Rattle.cell_table.specs.Sight.{IsResult}
use Rattle.cell.proofs.cells.Cells.result.Goals as goal

-- src/cells.rt:132:5
pub returns-clause-same : goal.returns-clause-same
returns-clause-same g c got is = c.result_of.ensures.same got (subst (λ (p : PassOf g.row.M.Denot). IsResult p.seen c.args.row got) (sym c.pass.view_is) is)
