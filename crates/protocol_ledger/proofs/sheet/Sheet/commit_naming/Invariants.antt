-- No row of the threads so far names this one.
use Rattle.std.proofs.Common.{◌≡◌, None}
use Rattle.protocol_ledger.specs.Tables.{all_rows, joined_at, namer_of}
use Rattle.protocol_ledger.specs.Sheets.{table_of}
use Rattle.protocol_ledger.proofs.sheet.Sheet.commit_naming.Given as goal

abbrev pub invariant-loop-thread : goal.invariant-loop-thread
invariant-loop-thread l = namer_of (all_rows l.thread l.self.rows) (joined_at (table_of l.self)) l.row ≡ None
