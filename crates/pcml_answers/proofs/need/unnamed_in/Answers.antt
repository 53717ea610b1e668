use Rattle.std.proofs.Common.{◌+◌, ◌∙◌, sym, subst}
use Rattle.script.specs.Scripts.{script_of}
use Rattle.pcml_answers.proofs.Parts.{FindsLeft, finds-behind-comma, finds-behind-letter}
use Rattle.pcml_answers.proofs.need.unnamed_in.Goals.{then-names-at-eq44+else-not-is_process, else-names-at-eq44}
use Rattle.pcml_answers.proofs.need.unnamed_in.Goals as goal

pub loop-at-preserved : goal.loop-at-preserved
loop-at-preserved c =
    let s = script_of c.args.script.now in
    let names = c.args.names.now in
    let at = c.loop-at.at in
    elim c.if-names-at-eq44.branch [
      | then-names-at-eq44+else-not-is_process w ↦
          subst (λ n. FindsLeft s names n (at + 1)) (sym w.begun-is)
          (finds-behind-comma s names c.loop-at.begun at c.loop-at-test.true w.if-names-at-eq44.true (sym w.is_process.ensures ∙ w.if-not-is_process.false) c.loop-at.invariant)
      | else-names-at-eq44 w ↦
          subst (λ n. FindsLeft s names n (at + 1)) (sym w.begun-is) (finds-behind-letter s names c.loop-at.begun at c.loop-at-test.true w.if-names-at-eq44.false c.loop-at.invariant)
    ]
