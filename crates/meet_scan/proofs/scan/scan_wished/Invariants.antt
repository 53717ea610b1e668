use Rattle.meet_scan.proofs.Scanning.{AreTried, Goes}
use Rattle.meet_scan.proofs.scan.scan_wished.Given as goal

-- the thread is tried for the offers so far
abbrev pub invariant-loop-n : goal.invariant-loop-n
invariant-loop-n g l = Goes l.cells l.directory l.row l.fn.pass l.pass l.fn.scan l.scan × AreTried l.cells l.scan.me.0 l.fn.pass.seen l.pass.seen l.row l.first l.n
