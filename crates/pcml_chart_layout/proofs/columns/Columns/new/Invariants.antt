use Rattle.std.proofs.Common.{◌≡◌}
use Rattle.std.specs.Prelude.{map}
use Rattle.std.specs.List.{range_with_len}
use Rattle.pcml_chart_layout.specs.Places.{column}
use Rattle.pcml_chart_layout.proofs.columns.Columns.new.Given as goal

abbrev pub invariant-loop-thread : goal.invariant-loop-thread
invariant-loop-thread l = l.places.items ≡ map (column l.own) (range_with_len 0 l.thread)
