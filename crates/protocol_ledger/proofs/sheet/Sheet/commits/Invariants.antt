-- The commits that the threads so far tell.
use Rattle.std.proofs.Common.{◌≡◌}
use Rattle.protocol_ledger.specs.Tables.{all_rows, joined_at, offer_at}
use Rattle.protocol_ledger.specs.Ledgers.{commits_of}
use Rattle.protocol_ledger.specs.Sheets.{table_of}
use Rattle.protocol_ledger.proofs.sheet.Sheet.commits.Given as goal

abbrev pub invariant-loop-thread : goal.invariant-loop-thread
invariant-loop-thread l = l.commits.items ≡ commits_of (all_rows l.thread l.self.rows) (joined_at (table_of l.self)) (offer_at (table_of l.self))
