use Rattle.meet_scan.proofs.Scanning.{Goes}
use Rattle.meet.proofs.meet.Search.scan.Given as goal

abbrev pub invariant-loop : goal.invariant-loop
invariant-loop g l =
    (goal.iterator-loop g).can_next l.iterator' × (goal.iterator-loop g).is_finite l.iterator' × Goes l.self.cells.now l.self.meet.now.directory l.row l.fn.pass l.pass l.fn.scan l.scan
