use Rattle.std.proofs.Common.{arith}
use Rattle.engine.proofs.Trying.{back-has-inverse}
use Rattle.engine.proofs.order.step_of.Goals as goal

pub returns-else-drawn-eq0-clause-inverse : goal.returns-else-drawn-eq0-clause-inverse
returns-else-drawn-eq0-clause-inverse c = back-has-inverse _ c.args.count (omega (arith, c.requires))
