use Rattle.channels.proofs.Members.{in-taken}
use Rattle.channels.proofs.Standing.{promise-fewer}
use Rattle.channels.proofs.channel.Channel.oldest.Goals as goal

pub invariant_of-self : goal.invariant_of-self
invariant_of-self c = promise-fewer _ _ (in-taken _ _ _ c.take_oldest.ensures.oldest) (λ w h. h) c.self.invariant

pub invariant_of-self-in-Receive : goal.invariant_of-self-in-Receive
invariant_of-self-in-Receive c = promise-fewer _ _ (λ w h. h) (in-taken _ _ _ c.take_oldest-in-Receive.ensures.oldest) c.self.invariant

pub returns-in-Send-clause-promise : goal.returns-in-Send-clause-promise
returns-in-Send-clause-promise c = invariant_of-self c

pub returns-in-Receive-clause-promise : goal.returns-in-Receive-clause-promise
returns-in-Receive-clause-promise c = invariant_of-self-in-Receive c
