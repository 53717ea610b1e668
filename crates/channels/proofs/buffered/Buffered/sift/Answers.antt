use Rattle.channels.proofs.Members.{in-sifted}
use Rattle.channels.proofs.Buffering.{promises-fewer}
use Rattle.channels.proofs.buffered.Buffered.sift.Goals as goal

pub invariant_of-self : goal.invariant_of-self
invariant_of-self g c = promises-fewer c.args.side _ _ c.sift.ensures.rest (in-sifted _ _ _ _ c.sift.ensures.sifted) c.sift.ensures.promise c.self.invariant

pub returns-clause-promise : goal.returns-clause-promise
returns-clause-promise g c = invariant_of-self g c
