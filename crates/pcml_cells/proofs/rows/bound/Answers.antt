use Rattle.std.proofs.Common.{inl, inr, refl}
use Rattle.pcml_cells.proofs.InHandles.{by_hand}
use Rattle.pcml_cells.proofs.rows.bound.Goals as goal

pub returns-in-Some-clause-told : goal.returns-in-Some-clause-told
returns-in-Some-clause-told c =
    by_hand c.args.kept.now c.in-Hand.hand c.bound.new.self c.tell_place.result _ c.in-Hand.is
    (inl (c.in-Some.name, c.in-Some.ensures.some.1, c.bound.result, c.bound.ensures, c.tell_place.ensures.number, c.tell_place.ensures.told))

pub returns-in-None-clause-told : goal.returns-in-None-clause-told
returns-in-None-clause-told c = by_hand c.args.kept.now c.in-Hand.hand c.in-Hand.hand 18 _ c.in-Hand.is (inr ((refl, refl), c.in-None.ensures.none))
