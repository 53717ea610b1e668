use Rattle.std.proofs.Common.{◌≡◌, ◌+◌, ◌*◌, length}
use Rattle.journal_text.specs.Labels.{reach}
use Rattle.journal_text.proofs.blank_line.Given as goal

abbrev pub invariant-loop : goal.invariant-loop
invariant-loop l = (length l.name.items ≡ reach l.labels) × (length l.line.items ≡ l.counter * reach l.labels + 88)
