use Rattle.std.proofs.Common.{◌+◌, ℕ, length, ap, sym, ◌∙◌, arith}
use Rattle.std.proofs.lemmas.List.{length_push}
use Rattle.pcml_outcomes.specs.Told.{shown}
use Rattle.pcml_outcomes.proofs.Showing.{shown-hidden, shown-told}
use Rattle.pcml_outcomes.proofs.shown.count_shown.Goals.{then-is_shown, else-is_shown}
use Rattle.pcml_outcomes.proofs.shown.count_shown.Goals as goal

pub loop-index-preserved : goal.loop-index-preserved
loop-index-preserved c =
    let asked = c.args.asked.now in
    let outcomes = c.args.outcomes.now in
    let o = c.index-outcomes-index.result in
    let is = c.index-outcomes-index.is in
    let before = c.loop-index.invariant in
    let few = before.1 in
    elim c.if-is_shown.branch [
      | then-is_shown w ↦ (
        w.count-is ∙ ap (λ (n : ℕ). n + 1) before.0
            ∙ sym (ap length (shown-told asked outcomes c.loop-index.index o (omega arith) is (sym c.is_shown.ensures ∙ w.if-is_shown.true)) ∙ length_push (shown asked _) _),
        omega (arith, w.count-is, few),
      )
      | else-is_shown w ↦ (
        w.count-is ∙ before.0 ∙ sym (ap length (shown-hidden asked outcomes c.loop-index.index o (omega arith) is (sym c.is_shown.ensures ∙ w.if-is_shown.false))),
        omega (arith, w.count-is, few),
      )
    ]
