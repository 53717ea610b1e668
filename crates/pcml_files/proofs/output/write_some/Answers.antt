use Rattle.std.proofs.Common.{rules}
use Rattle.pcml_files.proofs.Emitting.{keeps, keeps_on, appends_on, nothing_more}
use Rattle.pcml_files.proofs.output.write_some.Goals as goal

pub loop-init : goal.loop-init
loop-init g c = keeps (g.O.Write.contents c.args.out.now)

pub returns-in-Ok-clause-none : goal.returns-in-Ok-clause-none
returns-in-Ok-clause-none g c none = keeps_on _ _ _ c.loop.invariant (nothing_more _ _ c.in-Ok.count _ (search rules) c.in-Ok.ensures.bytes)

pub returns-in-Ok-clause-some : goal.returns-in-Ok-clause-some
returns-in-Ok-clause-some g c = (search rules, search rules, appends_on _ _ _ _ c.loop.invariant c.in-Ok.ensures.bytes)

pub returns-in-Err-2-clause-none : goal.returns-in-Err-2-clause-none
returns-in-Err-2-clause-none g c none = keeps_on _ _ _ c.loop.invariant c.in-Err-2.ensures.bytes

pub loop-preserved : goal.loop-preserved
loop-preserved g c = keeps_on _ _ _ c.loop.invariant c.in-Err.ensures.bytes

pub returns-clause-none : goal.returns-clause-none
returns-clause-none g c none = c.loop.invariant
