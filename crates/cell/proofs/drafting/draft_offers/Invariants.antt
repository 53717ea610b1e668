-- The offers before this one are drafted.
use Rattle.std.proofs.Common.{◌≡◌}
use Rattle.cell_table.specs.Seats.{Sits}
use Rattle.cell.specs.Attempts.{OnlyDrafts}
use Rattle.cell_table.specs.Views.{worked}
use Rattle.cell.proofs.Redrafting.{IsDraftedTo}
use Rattle.cell.proofs.drafting.draft_offers.Given as goal

abbrev pub invariant-loop-n : goal.invariant-loop-n
invariant-loop-n g l =
    record {
      same : l.seat.id ≡ l.fn.seat.id;
      out : l.seat.me.1 ≡ l.fn.seat.me.1;
      sits : Sits l.board l.seat;
      stays : l.seat.me.0 ≡ worked l.fn.seat.me.0.stage l.seat.me.0.seen l.seat.me.0.made l.fn.seat.me.0;
      made : OnlyDrafts l.row l.fn.seat.me.0.made l.seat.me.0.made;
      drafted : IsDraftedTo l.row l.offers l.n l.fn.seat.me.0.seen l.seat.me.0.seen;
    }
