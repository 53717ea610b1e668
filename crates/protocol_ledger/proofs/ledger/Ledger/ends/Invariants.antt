use Rattle.std.proofs.Common.{◌≡◌, ℕ, Some, length, slice_get}
use Rattle.protocol_ledger.specs.Ledgers.{course_in}
use Rattle.protocol_ledger.specs.Openings.{IsLastStamp, life_of}
use Rattle.protocol_ledger.specs.declared.opening.Life.{Life}
use Rattle.protocol_ledger.proofs.ledger.Ledger.ends.Given as goal

abbrev pub invariant-loop-thread : goal.invariant-loop-thread
invariant-loop-thread l =
    (length l.ends.items ≡ l.thread) × ((t : ℕ) (end : Life × ℕ) → slice_get l.ends.items t ≡ Some end → (end.0 ≡ life_of (course_in l.self t)) × IsLastStamp l.self t end.1)
