use Rattle.std.proofs.Common.{◌≡◌, ◌∙◌, ap, arith, sym}
use Rattle.protocol_ledger.specs.Short.{rows_of}
use Rattle.protocol_ledger.specs.Tables.{is_fresh, is_taken}
use Rattle.cell_table.proofs.InTurn.{all_taken, none_opened, none_past}
use Rattle.cell_table.proofs.closing.open_row.Goals as goal

pub loop-from-init : goal.loop-from-init
loop-from-init g c =
    let y = c.args.shape.now.layout in
    let to : c.from-to.result ≡ rows_of y c.args.thread = c.from-to.ensures ∙ ap (rows_of y) c.from.ensures in
    (omega arith, omega arith, (λ k below. absurd (omega (arith, below))), λ k past. none_past c.args.shape.now c.args.words.now c.args.thread c.requires.shape.2 c.requires.shape.3 k (omega (arith, past)))

-- the row in the middle was taken
pub loop-from-preserved-in-Taken : goal.loop-from-preserved-in-Taken
loop-from-preserved-in-Taken g c = (
  omega arith,
  omega arith,
  all_taken c.args.shape.now c.args.words.now c.args.thread c.requires.turns _ (ap is_taken (sym c.cell_there.ensures ∙ c.in-Taken.is)),
  c.loop-from.invariant.3,
)

-- or is not opened
pub loop-from-preserved : goal.loop-from-preserved
loop-from-preserved g c = (
  omega arith,
  omega arith,
  c.loop-from.invariant.2,
  none_opened c.args.shape.now c.args.words.now c.args.thread c.requires.turns _ (ap is_fresh (sym c.cell_there.ensures ∙ c.in-Fresh.is)),
)
