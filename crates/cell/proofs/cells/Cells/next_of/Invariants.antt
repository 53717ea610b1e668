-- The passes so far hold the rows that fall to them, and the dealer goes on with the next.
use Rattle.std.proofs.Common.{◌≡◌, ℕ, [], length, slice_get, Some}
use Rattle.protocol_ledger.specs.Openings.{opening_of}
use Rattle.cell.specs.Calls.{PassOf}
use Rattle.cell_table.specs.Rule.{dealer, dealt_from, seen_nothing}
use Rattle.cell_table.specs.Views.{opening_in}
use Rattle.cell.proofs.cells.Cells.next_of.Given as goal

abbrev pub invariant-loop-number : goal.invariant-loop-number
invariant-loop-number g l =
    record {
      here : l.dealer.table_id ≡ l.board.words.shared.table_id;
      dealer : l.dealer.me ≡ (dealer l.board.shape l.number, []);
      passes : (l.board.shape.passes ≡ l.fn.passes) × (opening_in l.board.shape ≡ opening_of l.fn.opening);
      count : length l.dealt.items ≡ l.number;
      each : (k : ℕ) (p : PassOf g.row.M.Denot) → slice_get l.dealt.items k ≡ Some p → p ≡ record { of = record { id = l.board.words.shared.table_id; threads = l.board.shape.threads; rows = l.board.shape.rows; layout = l.board.shape.layout; passes = l.board.shape.passes; lives = (opening_in l.board.shape).threads; nacks = (opening_in l.board.shape).nacks; first = l.board.shape.first.value.items }; seen = seen_nothing (dealt_from (opening_in l.board.shape) l.board.shape.threads l.board.shape.passes k); made = []; results = []; out = [] };
    }
