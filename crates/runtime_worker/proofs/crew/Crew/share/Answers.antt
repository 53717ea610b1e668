use Rattle.runtime_worker.proofs.crew.Crew.share.Goals as goal

pub returns-then-not-is_clear : goal.returns-then-not-is_clear
returns-then-not-is_clear g c = c.is_clear.ensures.here c.args.self.now.shared.now.ready c.requires

pub loop-init : goal.loop-init
loop-init g c = c.is_clear.ensures.here c.args.self.now.shared.now.ready c.requires
