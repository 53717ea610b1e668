use Rattle.channels.specs.declared.waiting.Side.TheVariants.{Send, Receive}
use Rattle.channels.proofs.Standing.{promise-tried}
use Rattle.channels.proofs.channel.Channel.stand.Goals as goal

pub invariant_of-self : goal.invariant_of-self
invariant_of-self c =
    promise-tried c.stand.result (record { sends = c.self.inside.sends; receives = c.self.inside.receives; closed = c.self.inside.closed }) Send c.args.waiting c.stand.new.line c.stand.ensures.ok c.stand.ensures.same c.self.invariant

pub invariant_of-self-in-Receive : goal.invariant_of-self-in-Receive
invariant_of-self-in-Receive c =
    promise-tried c.stand-in-Receive.result (record { sends = c.self.inside.sends; receives = c.self.inside.receives; closed = c.self.inside.closed }) Receive c.args.waiting c.stand-in-Receive.new.line c.stand-in-Receive.ensures.ok
    c.stand-in-Receive.ensures.same c.self.invariant

pub returns-in-Send-clause-promise : goal.returns-in-Send-clause-promise
returns-in-Send-clause-promise c = invariant_of-self c

pub returns-in-Receive-clause-promise : goal.returns-in-Receive-clause-promise
returns-in-Receive-clause-promise c = invariant_of-self-in-Receive c
