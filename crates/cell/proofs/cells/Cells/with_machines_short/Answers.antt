-- Its threads have words for all rows.
use Rattle.std.specs.Prelude.{◌≤◌, ◌<◌}
use Rattle.std.proofs.Common.{ℕ, arith, length, subst, sym}
use Rattle.protocol_ledger.specs.Short.{Fits, rows_of}
use Rattle.protocol_ledger.specs.declared.layout.Layout.{Layout}
use Rattle.cell.specs.Calls.{AllHaveWords}
use Rattle.cell.proofs.Evenness.{even_all, even_some}
use Rattle.cell.proofs.cells.Cells.with_machines_short.Goals as goal

pub with_machines_of-requires-clause-layout : goal.with_machines_of-requires-clause-layout
with_machines_of-requires-clause-layout g c =
    subst (λ (y : Layout). Fits y c.args.rows × ((t : ℕ) → t < length c.args.first.items → 1 ≤ rows_of y t)) (sym c.even-layout.ensures)
    (even_some c.from.result c.args.rows (length c.args.first.items) c.requires.threads.1 (omega (arith, c.from.ensures, c.requires.offers)) c.requires.rows.0)

pub with_machines_of-requires-clause-whole : goal.with_machines_of-requires-clause-whole
with_machines_of-requires-clause-whole g c whole = subst (λ (y : Layout). AllHaveWords y (length c.args.first.items) c.args.rows) (sym c.even-layout.ensures) (even_all c.from.result c.args.rows (length c.args.first.items) c.requires.threads.1)
