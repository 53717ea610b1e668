use Rattle.std.proofs.Common.{◌≡◌, ◌++◌}
use Rattle.std.specs.String.{string_bytes}
use Rattle.pcml_chart_layout.specs.Laid.{AreLabels, laid, written}
use Rattle.pcml_chart.specs.Chart.{each_below}
use Rattle.pcml_chart.specs.Drawn.{stamps_of}
use Rattle.pcml_chart.specs.Rows.{row}
use Rattle.journal_text.specs.Names.{Naming}
use Rattle.pcml_chart.proofs.row.push_rows.Given as goal

abbrev pub invariant-loop-place : goal.invariant-loop-place
invariant-loop-place l = (names : Naming) → AreLabels names (laid l.layout).own l.commits (written l.layout) → string_bytes l.out ≡ string_bytes l.fn.out ++ each_below l.place (row names (stamps_of l.state) (laid l.layout) l.commits)
