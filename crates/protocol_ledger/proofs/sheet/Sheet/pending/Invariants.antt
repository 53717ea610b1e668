-- The pending pairs of the threads so far are counted. A thread has 1,024 at most.
use Rattle.std.proofs.Common.{◌≡◌, ◌≤◌, ◌*◌}
use Rattle.protocol_ledger.specs.Tables.{all_rows, joined_at}
use Rattle.protocol_ledger.specs.Ledgers.{pending_of}
use Rattle.protocol_ledger.specs.Sheets.{table_of}
use Rattle.protocol_ledger.proofs.sheet.Sheet.pending.Given as goal

abbrev pub invariant-loop-thread : goal.invariant-loop-thread
invariant-loop-thread l = (l.pending ≡ pending_of (all_rows l.thread l.self.rows) (joined_at (table_of l.self))) × (l.pending ≤ l.thread * 1024)
