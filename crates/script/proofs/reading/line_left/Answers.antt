use Rattle.std.proofs.Common.{◌≡◌, ◌-◌, length, get_or, ap, ◌∙◌, arith}
use Rattle.script.proofs.Telling.{line_left_at}
use Rattle.script.proofs.reading.line_left.Goals as goal

pub returns : goal.returns
returns c =
    let ps = c.args.tokens.now.placed.items in
    let p = c.index.result.now in
    let count : c.len-len.result ≡ length ps = omega (arith, c.len-len.ensures, c.args.tokens.now.placed.ok.0) in
    line_left_at ps c.args.tokens.now.last_line c.args.left p c.if-left-eq0.false (omega (arith, count, c.if-left-len.false)) (c.index.ensures ∙ ap (λ n. get_or ps (n - c.args.left) p) count)
