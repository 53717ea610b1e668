use Rattle.std.proofs.Common.{◌≡◌, ◌+◌, ◌<◌, arith, ⊎_elim}
use Rattle.std.proofs.lemmas.Bool.{cases_lt}
use Rattle.pcml_chart.specs.Range.{count_shown}
use Rattle.pcml_chart.proofs.Ranging.{none_shown}
use Rattle.pcml_chart.proofs.range.range_end.Goals as goal

pub loop-few-init : goal.loop-few-init
loop-few-init c =
    let commits = c.args.commits.now in
    let some : c.args.from < c.from-end.result + 1 =
    ⊎_elim (λ lt. lt) (λ ge. absurd (omega (arith, none_shown c.args.from (c.from-end.result + 1) commits ge))) (cases_lt c.args.from (c.from-end.result + 1)) in
    let first : count_shown c.args.from c.from-few.result commits ≡ 0 = none_shown c.args.from c.from-few.result commits (omega arith) in
    (omega arith, omega arith, omega arith, omega arith)
