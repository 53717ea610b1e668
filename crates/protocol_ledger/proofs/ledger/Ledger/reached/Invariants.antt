use Rattle.protocol_ledger.proofs.Reaching.{HaveNoted, IsInFirst}
use Rattle.protocol_ledger.proofs.ledger.Ledger.reached.Given as goal

-- the commits before this one are noted
abbrev pub invariant-loop-commit : goal.invariant-loop-commit
invariant-loop-commit l = HaveNoted l.self (IsInFirst l.commits l.commit-index) l.reached.items
