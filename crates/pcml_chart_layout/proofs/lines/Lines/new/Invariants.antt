use Rattle.std.proofs.Common.{◌≡◌, ◌≤◌, ◌+◌, ◌*◌}
use Rattle.pcml_chart_layout.specs.Places.{line_at}
use Rattle.pcml_chart_layout.proofs.Lining.{lines_before}
use Rattle.pcml_chart_layout.proofs.lines.Lines.new.Given as goal

abbrev pub invariant-loop-gap : goal.invariant-loop-gap
invariant-loop-gap l = record {
  lines : l.lines.items ≡ lines_before l.gap-items (l.gap-index + 1);
  line : l.line ≡ line_at l.gap-items l.gap-index;
  low : l.line ≤ l.gap-index * 65535;
}
