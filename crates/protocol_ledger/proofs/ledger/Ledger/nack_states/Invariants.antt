use Rattle.std.proofs.Common.{◌≡◌, ◌*◌, length}
use Rattle.protocol_ledger.specs.Openings.{TellNacks}
use Rattle.protocol_ledger.proofs.ledger.Ledger.nack_states.Given as goal

abbrev pub invariant-loop-thread : goal.invariant-loop-thread
invariant-loop-thread l = (length l.states.items ≡ length l.reached * 64) × TellNacks l.self (l.thread * 64) l.states.items
