use Rattle.std.proofs.Common.{◌≡◌, take}
use Rattle.journal_order.specs.Messages.{named}
use Rattle.journal.proofs.messages.received_from.Given as goal

abbrev pub invariant-loop-commit : goal.invariant-loop-commit
invariant-loop-commit l = l.messages.items ≡ named l.thread l.channel (take l.commit-index l.commits)
