use Rattle.meet_directory.specs.Directory.{Opened}
use Rattle.meet_directory.specs.Seats.{Sits}
use Rattle.meet_scan.specs.Leaving.{KnowsMore}
use Rattle.meet_scan.proofs.Scanning.{ArePublishedTo}
use Rattle.meet_scan.proofs.scan.publish.Given as goal

abbrev pub invariant-loop-n : goal.invariant-loop-n
invariant-loop-n l = Sits l.directory l.scan × Opened l.scan.me.0.marks l.row.thread l.row.sync × ArePublishedTo l.scan.me.0.marks l.row l.directions l.n × KnowsMore l.fn.scan.me.0 l.scan.me.0
