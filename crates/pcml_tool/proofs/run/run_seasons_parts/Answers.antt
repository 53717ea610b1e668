use Rattle.std.proofs.Common.{◌≡◌, ◌*◌, ◌≤◌, ◌∙◌, List, sym, subst, Vec}
use Rattle.protocol_values.specs.declared.Commit.{Commit}
use Rattle.script.specs.Lines.{trees_of_script}
use Rattle.journal_replay.specs.Lines.{trees_in}
use Rattle.journal_replay.specs.Replays.{StandsAfter}
use Rattle.journal_replay.specs.declared.state.State.{State}
use Rattle.thread.specs.declared.end.End.{End}
use Rattle.pcml_tool.specs.Run.{TellsFreelyOf}
use Rattle.std.specs.Global.{Global}
use Rattle.std.proofs.lemmas.List.{length-map}
use Rattle.protocol_values.specs.declared.Atom.{Atom}
use Rattle.script.specs.Scripts.{script_of}
use Rattle.journal_text.proofs.Lining.{run_has_lines}
use Rattle.pcml_tool.proofs.Running.{in_ranges, tells_freely}
use Rattle.pcml_tool.proofs.run.run_seasons_parts.Goals as goal

pub record_text-requires-clause-lines : goal.record_text-requires-clause-lines
record_text-requires-clause-lines g c =
    let told = c.in_ok-record.ensures in
    let few : c.args.seasons * c.args.rows ≤ 67107840 = in_ranges c.args.workers c.args.rows c.args.seasons _ _ _ told.workers.1 told.rows.1 told.seasons.1 (λ e. absurd cc) (λ e. absurd cc) (λ e. absurd cc) in
    run_has_lines (script_of c.args.script.now) c.args.script.now.spelled (c.args.seasons * c.args.rows) few c.in_ok-record.record.journal.items told.completes.1.run

pub record_text-requires-clause-ends : goal.record_text-requires-clause-ends
record_text-requires-clause-ends g c = c.in_ok-record.ensures.completes.1.ends_are.ends_count

pub record_text-requires-clause-outputs : goal.record_text-requires-clause-outputs
record_text-requires-clause-outputs g c = sym (length-map c.in_ok-record.record.outputs.items (λ (v : Vec Atom Global). v.items)) ∙ c.in_ok-record.ensures.completes.1.ends_are.outputs_count

pub returns-in-Ok-clause-ran : goal.returns-in-Ok-clause-ran
returns-in-Ok-clause-ran g c =
    let told = c.in_ok-record.ensures in
    let t = c.in-Ok.text in
    let same = c.in-Ok.ensures.same in
    let few : c.args.seasons * c.args.rows ≤ 67107840 = in_ranges c.args.workers c.args.rows c.args.seasons _ _ _ told.workers.1 told.rows.1 told.seasons.1 (λ e. absurd cc) (λ e. absurd cc) (λ e. absurd cc) in
    subst (λ (z : List Commit × List End). TellsFreelyOf (script_of c.args.script.now) c.args.rows c.args.seasons z.0 z.1 t.lines.items t.rest.items) (λ i. (sym same.0 i, sym same.1 i))
    (tells_freely (script_of c.args.script.now) c.args.rows c.args.seasons c.in_ok-record.record _ _ c.args.script.now.spelled few told.headline told.completes c.in-Ok.ensures.tells)

pub returns-in-Ok-clause-leads : goal.returns-in-Ok-clause-leads
returns-in-Ok-clause-leads g c =
    let told = c.in_ok-record.ensures in
    let same = c.in-Ok.ensures.same in
    subst (λ (z : List Commit × State). StandsAfter (script_of c.args.script.now).processes (c.args.seasons * c.args.rows) z.0 z.1 × (trees_in z.1 ≡ trees_of_script c.args.script.now)) (λ i. (sym same.0 i, sym same.2 i))
    (told.completes.1.stands, told.trees)
