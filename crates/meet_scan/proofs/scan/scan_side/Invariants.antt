use Rattle.std.proofs.Common.{◌≡◌, ◌≤◌, ◌+◌, ◌-◌, false, true}
use Rattle.meet_directory.specs.Directory.{Has, glimpse}
use Rattle.meet_scan.specs.Leaving.{IsHeldUp}
use Rattle.meet_scan.proofs.Scanning.{AreDone, Goes}
use Rattle.meet_scan.proofs.scan.scan_side.Given as goal

-- the threads so far are done with, unless a row was claimed
abbrev pub invariant-loop-other : goal.invariant-loop-other
invariant-loop-other g l = Goes l.cells l.directory l.mine.0 l.fn.pass l.pass l.fn.scan l.scan × Has l.scan.me.0.looks (glimpse (64 + l.sides.1) l.word l.fn.scan.me.0)
    × (l.from ≤ 64) × (l.is_claimed ≡ false → AreDone l.scan.me.0 l.pass.seen l.mine.0 l.direction l.sides.0 l.sides.1 l.from)
    × (l.is_claimed ≡ true → IsHeldUp l.cells l.scan.me.0 l.fn.pass.seen l.pass.seen l.mine.0)

abbrev pub decreases-loop-other : goal.decreases-loop-other
decreases-loop-other g l = 64 - l.from
