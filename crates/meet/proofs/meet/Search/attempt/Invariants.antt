use Rattle.cell.specs.Calls.{IsPassOf, KeepsResults}
use Rattle.meet_scan.specs.Searches.{Grows}
use Rattle.meet_scan.specs.Steps.{SearchMade}
use Rattle.meet_scan.specs.declared.found.Found.TheVariants.{Waits}
use Rattle.meet.proofs.meet.Search.attempt.Given as goal

abbrev pub invariant-loop : goal.invariant-loop
invariant-loop g l =
    (goal.iterator-loop g).can_next l.iterator' × (goal.iterator-loop g).is_finite l.iterator' × IsPassOf l.self.cells.now l.pass × Grows l.fn.pass.seen l.pass.seen
    × SearchMade l.mine.0 Waits l.fn.pass.made l.pass.made × KeepsResults l.fn.pass l.pass
