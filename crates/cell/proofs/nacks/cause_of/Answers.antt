use Rattle.std.proofs.Common.{rules, ◌≡◌, inl, sym, ap, ◌∙◌}
use Rattle.protocol_values.specs.declared.Base.TheVariants.{OnEnd, OnNack}
use Rattle.cell_table.specs.Nacks.{IsCauseRow}
use Rattle.cell.proofs.Learning.{learns_wider, lives_wider, nacks_wider}
use Rattle.cell.proofs.nacks.cause_of.Goals as goal

pub returns-in-OnNack-clause-learns : goal.returns-in-OnNack-clause-learns
returns-in-OnNack-clause-learns g c =
    let nack = c.in-OnNack.nack in
    let base : c.args.base ≡ OnNack nack = (search rules) in
    let s = c.args.seat.now.me.0.seen in
    let t = c.enabled_at.new.seat.me.0.seen in
    lives_wider (IsCauseRow t c.args.base) (λ p. ⊥) (λ p. c.args.base ≡ OnEnd p) s t (λ p h. absurd h)
    (nacks_wider (IsCauseRow t c.args.base) (λ n. n ≡ nack) (λ n. c.args.base ≡ OnNack n) s t (λ n e. base ∙ ap OnNack (sym e))
    (learns_wider _ (IsCauseRow t c.args.base) s t (λ q h. inl (nack, h.0, base, h.1, h.2)) c.enabled_at.ensures.learns))
