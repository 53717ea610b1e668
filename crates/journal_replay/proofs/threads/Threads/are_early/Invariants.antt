use Rattle.std.proofs.Common.{◌<◌, ℕ}
use Rattle.journal_replay.specs.Gathering.{IsEarly}
use Rattle.journal_replay.proofs.threads.Threads.are_early.Given as goal

abbrev pub invariant-loop-thread : goal.invariant-loop-thread
invariant-loop-thread l = (t : ℕ) → t < l.thread → IsEarly l.self.strands.items t → ⊥
