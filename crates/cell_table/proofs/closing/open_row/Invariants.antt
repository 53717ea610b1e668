-- the rows before these were taken, and those behind them are not opened
use Rattle.std.proofs.Common.{◌-◌, ◌<◌, ◌≡◌, ◌≤◌, ℕ, true}
use Rattle.protocol_ledger.specs.Tables.{cell_at, is_fresh, is_taken}
use Rattle.protocol_ledger.specs.Short.{rows_of}
use Rattle.cell_table.specs.Closings.{words_of}
use Rattle.cell_table.proofs.closing.open_row.Given as goal

abbrev pub invariant-loop-from : goal.invariant-loop-from
invariant-loop-from g l =
    (l.from ≤ l.to) × (l.to ≤ rows_of l.shape.layout l.thread)
    × ((k : ℕ) → k < l.from → is_taken (cell_at (words_of l.shape l.words) (record { thread = l.thread; sync = k })) ≡ true)
    × ((k : ℕ) → l.to ≤ k → is_fresh (cell_at (words_of l.shape l.words) (record { thread = l.thread; sync = k })) ≡ true)

abbrev pub decreases-loop-from : goal.decreases-loop-from
decreases-loop-from g l = l.to - l.from
