use Rattle.std.proofs.Common.{◌≡◌, ℕ, ◌+◌, ap, ◌∙◌, arith}
use Rattle.pcml_chart_layout.specs.Places.{line_at}
use Rattle.pcml_chart_layout.proofs.Lining.{line_more, lines_more}
use Rattle.pcml_chart_layout.proofs.lines.Lines.new.Goals as goal

pub loop-gap-preserved : goal.loop-gap-preserved
loop-gap-preserved c =
    let gaps = c.deref-gap-items.result.now in
    let i = c.loop-gap.gap-index in
    let small = c.type_inv.gap-items i in
    let line : c.loop-gap.line + c.from-line.result ≡ line_at gaps (i + 1) =
    ap (λ (n : ℕ). c.loop-gap.line + n) c.from-line.ensures ∙ line_more gaps i _ c.loop-gap.line c.loop-gap-test.true c.loop-gap.invariant.line in
    record {
      lines = lines_more gaps c.loop-gap.lines.items _ (i + 1) (c.loop-gap.line + c.from-line.result) c.loop-gap.invariant.lines line c.in_ok-push-2.ensures.items;
      line = line;
      low = omega arith;
    }
