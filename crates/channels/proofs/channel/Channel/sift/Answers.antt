use Rattle.channels.proofs.Members.{in-sifted}
use Rattle.channels.proofs.Standing.{promise-fewer}
use Rattle.channels.proofs.channel.Channel.sift.Goals as goal

pub invariant_of-self : goal.invariant_of-self
invariant_of-self g c = promise-fewer _ _ (in-sifted _ _ _ _ c.sift.ensures) (λ w h. h) c.self.invariant

pub invariant_of-self-in-Receive : goal.invariant_of-self-in-Receive
invariant_of-self-in-Receive g c = promise-fewer _ _ (λ w h. h) (in-sifted _ _ _ _ c.sift-in-Receive.ensures) c.self.invariant

pub returns-in-Send-clause-promise : goal.returns-in-Send-clause-promise
returns-in-Send-clause-promise g c = invariant_of-self g c

pub returns-in-Receive-clause-promise : goal.returns-in-Receive-clause-promise
returns-in-Receive-clause-promise g c = invariant_of-self-in-Receive g c
