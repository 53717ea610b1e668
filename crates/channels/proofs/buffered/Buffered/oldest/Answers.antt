use Rattle.channels.proofs.Members.{in-taken}
use Rattle.channels.proofs.Buffering.{promises-fewer}
use Rattle.channels.proofs.buffered.Buffered.oldest.Goals as goal

pub invariant_of-self : goal.invariant_of-self
invariant_of-self c = promises-fewer c.args.side _ _ c.oldest.ensures.rest (in-taken _ _ _ c.oldest.ensures.oldest) c.oldest.ensures.promise c.self.invariant

pub returns-clause-promise : goal.returns-clause-promise
returns-clause-promise c = invariant_of-self c
