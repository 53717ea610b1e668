use Rattle.std.proofs.Common.{◌≡◌, ◌++◌}
use Rattle.std.specs.String.{string_bytes}
use Rattle.script.specs.Scripts.{script_of}
use Rattle.pcml_chart.specs.Chart.{each_below, foot_mark}
use Rattle.pcml_chart_layout.specs.Laid.{laid}
use Rattle.journal_text.specs.Names.{named}
use Rattle.pcml_chart.proofs.foot.push_feet.Given as goal

abbrev pub invariant-loop-thread : goal.invariant-loop-thread
invariant-loop-thread l = string_bytes l.out ≡ string_bytes l.fn.out ++ each_below l.thread (foot_mark (named (script_of l.script)) (laid l.layout) l.feet l.low)
