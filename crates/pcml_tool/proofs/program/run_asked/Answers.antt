use Rattle.std.proofs.Common.{◌≡◌, ℕ, Option, sym, subst}
use Rattle.script.specs.Scripts.{script_of}
use Rattle.script.specs.Lines.{trees_of_script}
use Rattle.journal_replay.specs.Lines.{trees_in}
use Rattle.journal_replay.specs.Replays.{StandsAfter}
use Rattle.pcml_request.specs.Requests.{all_rows}
use Rattle.pcml_tool.proofs.program.run_asked.Goals as goal

pub returns-in_ok-run_seasons_parts-in-Some-clause-leads : goal.returns-in_ok-run_seasons_parts-in-Some-clause-leads
returns-in_ok-run_seasons_parts-in-Some-clause-leads g c =
    let ran = c.in_ok-run_seasons_parts-in-Some in
    subst (λ (seasons : Option ℕ). StandsAfter (script_of c.args.script.now).processes (all_rows c.args.rows seasons) ran.field-0.commits.items ran.field-0.state × (trees_in ran.field-0.state ≡ trees_of_script c.args.script.now)) (sym c.in-Some.is) ran.ensures.leads

pub returns-in_ok-run_parts-in-None-clause-leads : goal.returns-in_ok-run_parts-in-None-clause-leads
returns-in_ok-run_parts-in-None-clause-leads g c =
    let ran = c.in_ok-run_parts-in-None in
    subst (λ (seasons : Option ℕ). StandsAfter (script_of c.args.script.now).processes (all_rows c.args.rows seasons) ran.field-0.commits.items ran.field-0.state × (trees_in ran.field-0.state ≡ trees_of_script c.args.script.now)) (sym c.in-None.is) ran.ensures.leads
