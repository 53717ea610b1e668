use Rattle.runtime_worker.proofs.crew.Crew.fetch_ready.Goals as goal

pub returns-then-is_clear : goal.returns-then-is_clear
returns-then-is_clear g c = c.is_clear.ensures.here c.args.self.now.shared.now.ready c.get.ensures.here.0

pub loop-preserved : goal.loop-preserved
loop-preserved g c = c.is_clear.ensures.here c.args.self.now.shared.now.ready c.get.ensures.here.0
