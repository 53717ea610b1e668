-- The commits of the thread's rows so far were added.
use Rattle.std.proofs.Common.{◌≡◌, ◌++◌}
use Rattle.protocol_ledger.specs.Tables.{rows_below, joined_at, offer_at}
use Rattle.protocol_ledger.specs.Ledgers.{commits_of}
use Rattle.protocol_ledger.specs.Sheets.{table_of}
use Rattle.protocol_ledger.proofs.sheet.Sheet.tell.Given as goal

abbrev pub invariant-loop-sync : goal.invariant-loop-sync
invariant-loop-sync l = l.commits.items ≡ l.fn.commits.items ++ commits_of (rows_below l.thread l.sync) (joined_at (table_of l.self)) (offer_at (table_of l.self))
