-- The pending pairs of the thread's rows so far are counted.
use Rattle.std.proofs.Common.{◌≡◌, ◌≤◌}
use Rattle.protocol_ledger.specs.Tables.{rows_below, joined_at}
use Rattle.protocol_ledger.specs.Ledgers.{pending_of}
use Rattle.protocol_ledger.specs.Sheets.{table_of}
use Rattle.protocol_ledger.proofs.sheet.Sheet.pending_in.Given as goal

abbrev pub invariant-loop-sync : goal.invariant-loop-sync
invariant-loop-sync l = (l.pending ≡ pending_of (rows_below l.thread l.sync) (joined_at (table_of l.self))) × (l.pending ≤ l.sync)
