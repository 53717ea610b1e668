use Rattle.std.proofs.Common.{◌≡◌, ◌++◌}
use Rattle.script.specs.Scripts.{script_of}
use Rattle.journal_text.specs.Names.{named}
use Rattle.pcml_chart_layout.specs.Laid.{own_of}
use Rattle.pcml_chart.specs.Chart.{each_below}
use Rattle.pcml_chart.specs.Mermaid.{participant_of}
use Rattle.pcml_chart.proofs.mermaid.push_participants.Given as goal

abbrev pub invariant-loop-thread : goal.invariant-loop-thread
invariant-loop-thread l = l.out.items ≡ l.fn.out.items ++ each_below l.thread (participant_of (named (script_of l.script)) (own_of l.columns))
