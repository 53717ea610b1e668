-- The set has the first rows of the threads so far that fall to the pass.
use Rattle.std.proofs.Common.{◌≡◌, ◌+◌}
use Rattle.protocol_ledger.specs.Openings.{opening_of}
use Rattle.cell.specs.Flags.{AreFlags}
use Rattle.cell_table.specs.Rule.{dealt_from}
use Rattle.cell.proofs.cells.first_rows.Given as goal

abbrev pub invariant-loop-thread : goal.invariant-loop-thread
invariant-loop-thread l =
    record {
      size : (l.first.threads ≡ l.threads) × (l.first.rows ≡ l.rows + 1);
      dealt : AreFlags l.first.threads l.first.rows l.first.flags.items (dealt_from (opening_of l.opening) l.thread l.passes l.number);
    }
