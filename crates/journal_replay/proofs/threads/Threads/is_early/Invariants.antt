use Rattle.std.proofs.Common.{◌≡◌, ◌<◌, ℕ, false, get_or}
use Rattle.journal_replay.specs.Gathering.{waits_in}
use Rattle.journal_replay.proofs.threads.Threads.is_early.Given as goal

abbrev pub invariant-loop-other : goal.invariant-loop-other
invariant-loop-other l = (i : ℕ) → i < l.other-index → waits_in l.self.strands.items (get_or l.other-items i 0) ≡ false
