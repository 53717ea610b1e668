use Rattle.std.proofs.Common.{◌≡◌, ◌<◌, ℕ, false, true}
use Rattle.std.specs.Prelude.{IsTrue}
use Rattle.cell_table.specs.Nacks.{CanStandAlone}
use Rattle.meet_scan.specs.Leaving.{IsHeldUp, IsLeftAt}
use Rattle.meet_scan.proofs.Scanning.{Goes}
use Rattle.meet_scan.proofs.scan.scan_offers.Given as goal

-- the row is left for the offers so far, unless a row was claimed
abbrev pub invariant-loop-n : goal.invariant-loop-n
invariant-loop-n g l = Goes l.cells l.directory l.row l.fn.pass l.pass l.fn.scan l.scan
    × (l.is_claimed ≡ false → (k : ℕ) → k < l.n → IsLeftAt l.scan.me.0 l.pass.seen l.row k × (IsTrue l.alone → ¬ CanStandAlone l.fn.pass.seen l.row k))
    × (l.is_claimed ≡ true → IsHeldUp l.cells l.scan.me.0 l.fn.pass.seen l.pass.seen l.row)
