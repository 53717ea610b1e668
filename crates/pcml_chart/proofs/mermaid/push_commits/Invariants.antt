use Rattle.std.proofs.Common.{◌≡◌, ◌++◌, take}
use Rattle.std.specs.List.{flat_map}
use Rattle.script.specs.Scripts.{script_of}
use Rattle.journal_text.specs.Names.{named}
use Rattle.pcml_chart_layout.specs.Laid.{own_of}
use Rattle.pcml_chart.specs.Mermaid.{commit_line}
use Rattle.pcml_chart.proofs.mermaid.push_commits.Given as goal

abbrev pub invariant-loop-commit : goal.invariant-loop-commit
invariant-loop-commit l = l.out.items ≡ l.fn.out.items ++ flat_map (commit_line (named (script_of l.script)) (own_of l.columns)) (take l.commit-index l.commits)
