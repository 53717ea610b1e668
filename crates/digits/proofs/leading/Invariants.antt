use Rattle.std.proofs.Common.{◌≡◌, ◌≤◌, length}
use Rattle.digits.specs.Reading.{digits_at, leading_at}
use Rattle.digits.proofs.leading.Given as goal

abbrev pub invariant-loop-rest : goal.invariant-loop-rest
invariant-loop-rest l = (leading_at l.limit l.bytes ≡ digits_at l.limit l.value l.rest) × (l.value ≤ l.limit)

abbrev pub decreases-loop-rest : goal.decreases-loop-rest
decreases-loop-rest l = length l.rest
