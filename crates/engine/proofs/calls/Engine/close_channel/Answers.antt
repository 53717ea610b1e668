use Rattle.engine.proofs.calls.Engine.close_channel.Goals as goal

pub returns-clause-ok : goal.returns-clause-ok
returns-clause-ok c = (c.knows.ensures.0 c.if-not-knows.false, rw (← c.self.view_is) c.close_channel.ensures.closes)
