use Rattle.std.specs.Prelude.{map}
use Rattle.std.specs.String.{string_bytes}
use Rattle.script.specs.Scripts.{script_of}
use Rattle.pcml_answers.specs.Standings.{IsStandingOf}
use Rattle.pcml_answers.proofs.Lines.{LinesTo}
use Rattle.journal_text.specs.Names.{named}
use Rattle.pcml_answers.proofs.processes.standing_lines.Given as goal

abbrev pub invariant-loop-thread : goal.invariant-loop-thread
invariant-loop-thread l = LinesTo (named (script_of l.script)) (IsStandingOf l.ends (map (λ v. v.items) l.outputs)) l.thread (string_bytes l.lines)
