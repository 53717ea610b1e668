-- No row of the thread so far names this one.
use Rattle.std.proofs.Common.{◌≡◌, None}
use Rattle.protocol_ledger.specs.Tables.{rows_below, joined_at, namer_of}
use Rattle.protocol_ledger.specs.Sheets.{table_of}
use Rattle.protocol_ledger.proofs.sheet.Sheet.namer_in.Given as goal

abbrev pub invariant-loop-sync : goal.invariant-loop-sync
invariant-loop-sync l = namer_of (rows_below l.thread l.sync) (joined_at (table_of l.self)) l.row ≡ None
