use Rattle.std.proofs.Common.{◌≤◌, length, arith}
use Rattle.std.specs.Fmt.{decimal}
use Rattle.std.proofs.lemmas.Fmt.{length-decimal-le}
use Rattle.pcml_chart_layout.proofs.Digits.{one_digit, one_digit_more}
use Rattle.pcml_chart_layout.proofs.widths.digit_count.Goals as goal

pub overflow_add-count : goal.overflow_add-count
overflow_add-count c =
    let short : length (decimal c.args.number) ≤ 10 = length-decimal-le 10 c.args.number (omega arith) (omega arith) (omega arith) in
    let more = one_digit_more c.loop-rest.rest c.loop-rest-test.true (omega arith) in
    omega arith

pub loop-rest-preserved : goal.loop-rest-preserved
loop-rest-preserved c =
    let more = one_digit_more c.loop-rest.rest c.loop-rest-test.true (omega arith) in
    (omega arith, omega arith)

pub returns : goal.returns
returns c = let last = one_digit c.loop-rest.rest c.loop-rest-test.false in omega arith
