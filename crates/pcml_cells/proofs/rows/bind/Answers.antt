use Rattle.std.proofs.Common.{arith, inl, inr, refl, subst}
use Rattle.protocol_values.specs.declared.Row.{Row}
use Rattle.cell_hand.specs.Calls.{Binds}
use Rattle.pcml_cells.proofs.InHandles.{by_hand}
use Rattle.pcml_cells.proofs.rows.bind.Goals as goal

pub returns-then-nack-gt63 : goal.returns-then-nack-gt63
returns-then-nack-gt63 c = by_hand c.args.kept.now c.in-Hand.hand c.in-Hand.hand 18 _ c.in-Hand.is (inr ((refl, refl), inl c.if-nack-gt63.true))

pub returns-then-scope-gt3 : goal.returns-then-scope-gt3
returns-then-scope-gt3 c = by_hand c.args.kept.now c.in-Hand.hand c.in-Hand.hand 18 _ c.in-Hand.is (inr ((refl, refl), inr c.if-scope-gt3.true))

pub returns-else-scope-gt3 : goal.returns-else-scope-gt3
returns-else-scope-gt3 c =
    let bound = subst (λ (r : Row). Binds c.in-Hand.hand c.bind.new.self c.args.nack r c.args.scope c.bind.result) c.read.ensures c.bind.ensures in
    by_hand c.args.kept.now c.in-Hand.hand c.bind.new.self c.first.result _ c.in-Hand.is
    (inl (omega (arith, c.if-nack-gt63.false), omega (arith, c.if-scope-gt3.false), (c.bind.result, bound, c.first.ensures)))
