use Rattle.std.proofs.Common.{arith, inl, inr, length, refl, subst, take, ℕ}
use Rattle.std.specs.Prelude.{min}
use Rattle.protocol_values.specs.declared.Row.{Row}
use Rattle.cell_hand.specs.Calls.{Begins}
use Rattle.pcml_cells.proofs.InHandles.{by_hand}
use Rattle.pcml_cells.proofs.Offers.{few_listed}
use Rattle.pcml_cells.proofs.commits.begin.Goals as goal

pub returns-in-Some-clause-told : goal.returns-in-Some-clause-told
returns-in-Some-clause-told c =
    let plain = c.args.offers.now in
    let all = c.in-Some.all in
    let read = c.in-Some.ensures in
    let listed = few_listed plain all (omega (arith, read.few.0, read.few.1)) read.listed in
    let begun = subst (λ (r : Row). Begins c.in-Hand.hand c.begin.new.self r (take (length plain) all) (min c.args.first 255) c.args.alone c.begin.result) c.read.ensures
    (subst (λ (n : ℕ). Begins c.in-Hand.hand c.begin.new.self c.read.result (take (length plain) all) n c.args.alone c.begin.result) c.small.ensures c.begin.ensures) in
    by_hand c.args.kept.now c.in-Hand.hand c.begin.new.self c.tell_met.result _ c.in-Hand.is
    (inl (take (length plain) all, listed.0, listed.1, c.begin.result, begun, c.tell_met.ensures.number, c.tell_met.ensures.told))

pub returns-in-None-clause-told : goal.returns-in-None-clause-told
returns-in-None-clause-told c = by_hand c.args.kept.now c.in-Hand.hand c.in-Hand.hand 18 _ c.in-Hand.is (inr ((refl, refl), c.in-None.ensures.none))
