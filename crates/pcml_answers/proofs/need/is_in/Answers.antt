use Rattle.std.proofs.Common.{◌+◌, ◌∙◌, sym, subst}
use Rattle.pcml_answers.proofs.Parts.{HasLeft, in-behind-comma, in-behind-letter}
use Rattle.pcml_answers.proofs.need.is_in.Goals.{then-names-at-eq44+else-eq, else-names-at-eq44}
use Rattle.pcml_answers.proofs.need.is_in.Goals as goal

pub loop-at-preserved : goal.loop-at-preserved
loop-at-preserved c = elim c.if-names-at-eq44.branch [
  | then-names-at-eq44+else-eq w ↦
      subst (λ n. HasLeft c.args.name.now c.args.names.now n (c.loop-at.at + 1)) (sym w.begun-is)
      (in-behind-comma c.args.name.now c.args.names.now c.loop-at.begun c.loop-at.at c.loop-at-test.true w.if-names-at-eq44.true (sym w.eq.ensures ∙ w.if-eq.false) c.loop-at.invariant)
  | else-names-at-eq44 w ↦
      subst (λ n. HasLeft c.args.name.now c.args.names.now n (c.loop-at.at + 1)) (sym w.begun-is)
      (in-behind-letter c.args.name.now c.args.names.now c.loop-at.begun c.loop-at.at c.loop-at-test.true w.if-names-at-eq44.false c.loop-at.invariant)
]
