use Rattle.std.proofs.Common.{◌≡◌, ℕ, Some, length, slice_get}
use Rattle.protocol_ledger.specs.Ledgers.{course_in}
use Rattle.protocol_ledger.specs.Tables.{start_of}
use Rattle.protocol_ledger.specs.declared.reached.Reached.{Reached}
use Rattle.protocol_ledger.proofs.ledger.Ledger.starts.Given as goal

abbrev pub invariant-loop-thread : goal.invariant-loop-thread
invariant-loop-thread l =
    (length l.starts.items ≡ l.thread) × ((t : ℕ) (reached : Reached) → slice_get l.starts.items t ≡ Some reached → reached ≡ record { stamp = start_of (course_in l.self t); rows = 0 })
