use Rattle.meet_scan.proofs.Growing.{grows_by, grows_then}
use Rattle.meet_scan.proofs.Making.{keeps_then, one_try}
use Rattle.meet.proofs.meet.Search.attempt.Goals as goal

pub returns-in-Gone-clause-made : goal.returns-in-Gone-clause-made
returns-in-Gone-clause-made g c =
    one_try c.args.mine.0 c.args.pass.now.made c.loop.pass.made c.attempt.new.pass.made c.loop.invariant.4 c.in-Gone.ensures.made

-- the other row was claimed
pub loop-preserved : goal.loop-preserved
loop-preserved g c =
    let s = c.args.pass.now.seen in
    let t = c.loop.pass.seen in
    let u = c.attempt.new.pass.seen in (
      tt,
      tt,
      c.attempt.ensures.here,
      grows_then s t u c.loop.invariant.3 (grows_by _ _ t u c.attempt.ensures.learns),
      one_try c.args.mine.0 c.args.pass.now.made c.loop.pass.made c.attempt.new.pass.made c.loop.invariant.4 c.in-Busy.ensures.made,
      keeps_then c.args.pass.now c.loop.pass c.attempt.new.pass c.loop.invariant.5 c.attempt.ensures.results,
    )
