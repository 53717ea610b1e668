use Rattle.cell.specs.Calls.{IsPassOf}
use Rattle.meet_scan.specs.Searches.{Grows}
use Rattle.meet.specs.Wakings.{IsBaseOf}
use Rattle.meet_scan.specs.Steps.{OnlyLooks}
use Rattle.meet.proofs.waking.wake_entry.Given as goal

abbrev pub invariant-loop : goal.invariant-loop
invariant-loop g l =
    (goal.iterator-loop g).can_next l.iterator' × (goal.iterator-loop g).is_finite l.iterator' × IsPassOf l.cells l.pass × Grows l.fn.pass.seen l.pass.seen × IsBaseOf l.pass.seen l.row l.n l.fn.base
    × OnlyLooks l.fn.pass l.pass
