use Rattle.std.proofs.Common.{◌≡◌, ◌++◌, drop}
use Rattle.std.specs.String.{string_bytes}
use Rattle.script.specs.Scripts.{script_of}
use Rattle.journal_text.specs.Names.{named}
use Rattle.outcomes.specs.Asking.{marked}
use Rattle.outcomes.specs.Outcomes.{ends_in, outputs_in}
use Rattle.pcml_answers.specs.Standings.{process_lines}
use Rattle.pcml_outcomes.specs.Told.{standings}
use Rattle.pcml_outcomes.proofs.shown.push_named.Given as goal

abbrev pub invariant-loop-thread : goal.invariant-loop-thread
invariant-loop-thread l =
    let names = named (script_of l.script) in
    let all = standings (ends_in l.outcome) (outputs_in l.outcome) in
    string_bytes l.out ++ process_lines names (marked (drop l.thread l.marks) (drop l.thread all)) ≡ string_bytes l.fn.out ++ process_lines names (marked l.marks all)
