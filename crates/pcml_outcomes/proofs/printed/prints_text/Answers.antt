use Rattle.std.proofs.Common.{◌<◌, List, length, take, sym, subst, arith}
use Rattle.std.proofs.lemmas.List.{take_more}
use Rattle.script.specs.Scripts.{script_of}
use Rattle.pcml_answers.specs.declared.prints.Print.{Print}
use Rattle.pcml_outcomes.specs.Printed.{TellsPrints}
use Rattle.pcml_outcomes.proofs.Several.{tells-more}
use Rattle.pcml_outcomes.proofs.printed.prints_text.Goals as goal

pub loop-print-preserved : goal.loop-print-preserved
loop-print-preserved g c =
    let s = script_of c.args.script.now in
    let prints = c.args.prints.now in
    let index = c.loop-print.print-index in
    let low : index < length prints = omega (arith, c.loop-print-test.true) in
    subst (λ (xs : List Print). TellsPrints s c.args.limit xs c.in_ok-told.told) (sym (take_more prints index _ low))
    (tells-more s c.args.limit (take index prints) _ c.loop-print.told c.in_ok-part.part c.in_ok-told.told c.loop-print.invariant c.in_ok-part.ensures c.in_ok-told.ensures)
