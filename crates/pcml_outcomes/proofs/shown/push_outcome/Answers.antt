use Rattle.std.specs.String.{string_bytes}
use Rattle.script.specs.Scripts.{script_of}
use Rattle.journal_text.specs.Names.{named}
use Rattle.outcomes.specs.Asking.{marked}
use Rattle.outcomes.specs.Outcomes.{ends_in, outputs_in}
use Rattle.pcml_answers.specs.Standings.{process_lines}
use Rattle.pcml_outcomes.specs.Told.{outcome_line, standings}
use Rattle.pcml_outcomes.proofs.Marking.{added-behind}
use Rattle.pcml_outcomes.proofs.shown.push_outcome.Goals as goal

pub returns : goal.returns
returns c =
    let o = c.args.outcome.now in
    let lines = process_lines (named (script_of c.args.script.now)) (marked c.args.marks.now (standings (ends_in o) (outputs_in o))) in
    added-behind c.push_named.result (string_bytes c.args.out.now) (string_bytes c.push_outcome_line.new.out) (string_bytes c.push_named.new.out) (outcome_line c.args.number) lines
    c.in_ok-push_outcome_line.ensures c.push_named.ensures
