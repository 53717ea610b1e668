use Rattle.std.specs.Prelude.{◌≡◌, ◌<◌, ℕ}
use Rattle.cell.specs.Calls.{IsPassOf}
use Rattle.cell_table.specs.Nacks.{CanStandAlone}
use Rattle.meet_scan.specs.Searches.{Grows}
use Rattle.cell_hand.proofs.meeting.wake_row.Given as goal

-- no offer before this one lets the row stand alone
abbrev pub invariant-loop-n : goal.invariant-loop-n
invariant-loop-n l =
    IsPassOf l.cells l.pass × Grows l.fn.pass.seen l.pass.seen × (l.pass.made ≡ l.fn.pass.made)
    × ((k : ℕ) → k < l.n → ¬ CanStandAlone l.fn.pass.seen l.row k)
