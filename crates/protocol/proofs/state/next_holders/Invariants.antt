-- The holders of the threads so far, and of the thread's rows so far.
use Rattle.std.proofs.Common.{◌≡◌, ◌++◌, map}
use Rattle.protocol_ledger.specs.Openings.{held_first, opening_of}
use Rattle.protocol_ledger.specs.Tables.{all_rows, rows_below}
use Rattle.protocol.proofs.state.next_holders.Given as goal

abbrev pub invariant-loop-thread : goal.invariant-loop-thread
invariant-loop-thread l = l.holders.items ≡ map (held_first (opening_of l.opening) l.seats) (all_rows l.thread l.sheet.rows)

abbrev pub invariant-loop-sync : goal.invariant-loop-sync
invariant-loop-sync l = l.holders.items ≡ map (held_first (opening_of l.opening) l.seats) (all_rows l.thread l.sheet.rows ++ rows_below l.thread l.sync)
