-- The starts so far are written.
use Rattle.std.proofs.Common.{◌≡◌, ◌≤◌, ℕ, get_or, length}
use Rattle.protocol_ledger.specs.Short.{words_below}
use Rattle.protocol_ledger.proofs.layout.Layout.starts.Given as goal

abbrev pub invariant-loop-thread : goal.invariant-loop-thread
invariant-loop-thread l = (length l.starts ≡ 65) × ((t : ℕ) → t ≤ l.thread → get_or l.starts t 0 ≡ words_below l.self t)
