use Rattle.std.proofs.Common.{◌≡◌, ◌+◌, ◌*◌, length}
use Rattle.protocol_ledger.specs.Openings.{TellNacks}
use Rattle.protocol_ledger.proofs.ledger.Ledger.tell_nacks.Given as goal

abbrev pub invariant-loop-k : goal.invariant-loop-k
invariant-loop-k l = (length l.states ≡ length l.fn.states) × TellNacks l.self (l.thread * 64 + l.k) l.states
