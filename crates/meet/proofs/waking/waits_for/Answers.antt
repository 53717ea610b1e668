use Rattle.std.proofs.Common.{inl, sym, ◌∙◌}
use Rattle.protocol_values.proofs.Equality.{bases}
use Rattle.meet.proofs.waking.waits_for.Goals as goal

pub returns-in-Some-clause-waits : goal.returns-in-Some-clause-waits
returns-in-Some-clause-waits g c = λ same. (c.in-Some.offer, inl c.in-Some.ensures.some.1, (bases c.in-Some.offer.base c.args.base).0 (sym c.eq.ensures ∙ same))
