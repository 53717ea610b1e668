-- The lives of the threads so far are written.
use Rattle.std.proofs.Common.{◌≡◌, ◌+◌, ◌*◌, replicate}
use Rattle.protocol_ledger.specs.Worlds.{with_lives}
use Rattle.protocol_ledger.proofs.sheet.start_words.Given as goal

abbrev pub invariant-loop-thread : goal.invariant-loop-thread
invariant-loop-thread l = l.words.items ≡ with_lives l.later l.rows l.thread (replicate (l.threads * (l.rows * 34 + 65)) 0)
