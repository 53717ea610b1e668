use Rattle.std.proofs.Common.{arith, inl, inr, length, refl, subst, take}
use Rattle.protocol_values.specs.declared.Row.{Row}
use Rattle.cell_hand.specs.Calls.{Drafts}
use Rattle.pcml_cells.proofs.InHandles.{by_hand}
use Rattle.pcml_cells.proofs.Offers.{few_listed}
use Rattle.pcml_cells.proofs.rows.draft.Goals as goal

pub returns-in-Some : goal.returns-in-Some
returns-in-Some c =
    let plain = c.args.offers.now in
    let all = c.in-Some.all in
    let read = c.in-Some.ensures in
    let listed = few_listed plain all (omega (arith, read.few.0, read.few.1)) read.listed in
    by_hand c.args.kept.now c.in-Hand.hand c.draft.new.self c.done.result _ c.in-Hand.is
    (inl (take (length plain) all, listed.0, listed.1, (c.draft.result, subst (λ (r : Row). Drafts c.in-Hand.hand c.draft.new.self r (take (length plain) all) c.draft.result) c.read.ensures c.draft.ensures, c.done.ensures)))

pub returns-in-None : goal.returns-in-None
returns-in-None c = by_hand c.args.kept.now c.in-Hand.hand c.in-Hand.hand 18 _ c.in-Hand.is (inr ((refl, refl), c.in-None.ensures.none))
