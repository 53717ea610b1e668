use Rattle.std.proofs.Common.{◌<◌, ℕ}
use Rattle.cell.specs.Calls.{IsPassOf}
use Rattle.meet_scan.specs.Leaving.{MeetsNoneAt}
use Rattle.meet_scan.specs.Searches.{Grows}
use Rattle.meet_scan.specs.Steps.{OnlyLooks}
use Rattle.meet_scan.proofs.scan.meeting_offer.Given as goal

abbrev pub invariant-loop-n : goal.invariant-loop-n
invariant-loop-n g l = IsPassOf l.cells l.pass × Grows l.fn.pass.seen l.pass.seen × OnlyLooks l.fn.pass l.pass
    × ((k : ℕ) → k < l.n → MeetsNoneAt l.pass.seen l.row l.direction k)
