use Rattle.std.proofs.Common.{◌≡◌, None, drop}
use Rattle.thread_strand.proofs.Noting.{found_in}
use Rattle.thread_strand.proofs.fired.Fired.get.Given as goal

abbrev pub invariant-loop-noted : goal.invariant-loop-noted
invariant-loop-noted l = found_in l.nack l.found (drop l.noted-index l.noted-items) ≡ found_in l.nack None l.noted-items
