use Rattle.std.proofs.Common.{sym, ◌∙◌, arith}
use Rattle.pcml_outcomes.proofs.Showing.{first-here, first-more}
use Rattle.pcml_outcomes.proofs.asked.first_shown.Goals as goal

pub returns-then-is_shown : goal.returns-then-is_shown
returns-then-is_shown c =
    let o = c.index-outcomes-index.result in
    sym (first-here c.args.asked.now c.args.outcomes.now c.loop-index.index o (omega arith) c.index-outcomes-index.is c.loop-index.invariant (sym c.is_shown.ensures ∙ c.if-is_shown.true))

pub loop-index-preserved : goal.loop-index-preserved
loop-index-preserved c =
    let o = c.index-outcomes-index.result in
    first-more c.args.asked.now c.args.outcomes.now c.loop-index.index o (omega arith) c.index-outcomes-index.is c.loop-index.invariant (sym c.is_shown.ensures ∙ c.if-is_shown.false)
