use Rattle.std.proofs.Common.{◌≡◌, ℕ, List, ◌++◌, length, ap, ◌∙◌, append_assoc, arith}
use Rattle.std.proofs.lemmas.Result.{on_ok_weaker}
use Rattle.std.specs.String.{string_bytes}
use Rattle.script.specs.Scripts.{script_of}
use Rattle.pcml_chart.specs.Chart.{each_below, lifeline, others_line}
use Rattle.pcml_chart_layout.specs.Laid.{laid}
use Rattle.pcml_chart.proofs.Pieces.{each_below-more}
use Rattle.journal_text.specs.Names.{named}
use Rattle.pcml_chart.proofs.frame.push_lifelines.Goals as goal

pub loop-thread-preserved : goal.loop-thread-preserved
loop-thread-preserved c =
    each_below-more (lifeline (named (script_of c.args.script.now)) (laid c.args.layout.now) c.args.low) c.loop-thread.thread (string_bytes c.args.out.now) (string_bytes c.loop-thread.out) (string_bytes c.push_lifeline.new.out)
    c.loop-thread.invariant c.in_ok-push_lifeline.ensures

pub returns : goal.returns
returns c =
    let l = laid c.args.layout.now in
    let f : ℕ → List ℕ = lifeline (named (script_of c.args.script.now)) l c.args.low in
    let all : c.loop-thread.thread ≡ length l.own = omega arith in
    on_ok_weaker c.push_others_line.result
    (λ e. e
    ∙ ap (λ (t : List ℕ). t ++ others_line l c.args.low) (c.loop-thread.invariant ∙ ap (λ (n : ℕ). string_bytes c.args.out.now ++ each_below n f) all)
    ∙ append_assoc (string_bytes c.args.out.now) (each_below (length l.own) f) (others_line l c.args.low))
    c.push_others_line.ensures
