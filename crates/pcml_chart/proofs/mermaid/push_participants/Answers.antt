use Rattle.std.proofs.Common.{◌≡◌, ℕ, List, ◌++◌, length, ap, ◌∙◌, append_assoc, arith}
use Rattle.std.proofs.lemmas.Result.{on_ok_weaker}
use Rattle.script.specs.Scripts.{script_of}
use Rattle.journal_text.specs.Names.{named}
use Rattle.pcml_chart_layout.specs.Laid.{own_of}
use Rattle.pcml_chart.specs.Chart.{each_below}
use Rattle.pcml_chart.specs.Mermaid.{others, participant_of}
use Rattle.pcml_chart.proofs.Pieces.{each_below-more}
use Rattle.pcml_chart.proofs.mermaid.push_participants.Goals as goal

pub loop-thread-preserved : goal.loop-thread-preserved
loop-thread-preserved c =
    each_below-more (participant_of (named (script_of c.args.script.now)) (own_of c.args.columns.now)) c.loop-thread.thread c.args.out.now.items c.loop-thread.out.items c.push_participant_of.new.out.items
    c.loop-thread.invariant c.in_ok-push_participant_of.ensures

pub returns : goal.returns
returns c =
    let own = own_of c.args.columns.now in
    let f : ℕ → List ℕ = participant_of (named (script_of c.args.script.now)) own in
    let all : c.loop-thread.thread ≡ length own = omega arith in
    on_ok_weaker c.push_others.result
    (λ e. e
    ∙ ap (λ (t : List ℕ). t ++ others own) (c.loop-thread.invariant ∙ ap (λ (n : ℕ). c.args.out.now.items ++ each_below n f) all)
    ∙ append_assoc c.args.out.now.items (each_below (length own) f) (others own))
    c.push_others.ensures
