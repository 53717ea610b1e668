use Rattle.std.proofs.Common.{◌≡◌, map}
use Rattle.std.specs.List.{range_with_len}
use Rattle.script.specs.Scripts.{script_of}
use Rattle.journal_text.specs.Names.{named}
use Rattle.pcml_chart_layout.specs.Widths.{gap_width}
use Rattle.pcml_chart_layout.proofs.widths.gaps_and_labels.Given as goal

abbrev pub invariant-loop-place : goal.invariant-loop-place
invariant-loop-place l = l.gaps.items ≡ map (gap_width (named (script_of l.script)) l.columns.own.now l.feet l.commits) (range_with_len 0 l.place)
