use Rattle.std.proofs.Common.{◌≡◌, ◌≤◌, ◌+◌, length}
use Rattle.std.specs.Fmt.{decimal}
use Rattle.pcml_chart_layout.proofs.widths.digit_count.Given as goal

-- the digits that are counted, less one, and those of what is left
abbrev pub invariant-loop-rest : goal.invariant-loop-rest
invariant-loop-rest l = (l.count + length (decimal l.rest) ≡ length (decimal l.number) + 1) × (l.rest ≤ l.number)

abbrev pub decreases-loop-rest : goal.decreases-loop-rest
decreases-loop-rest l = l.rest
