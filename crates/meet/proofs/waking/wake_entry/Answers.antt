use Rattle.meet_scan.proofs.Growing.{grows_by, grows_then}
use Rattle.meet.proofs.Woken.{waits_more, woken_by}
use Rattle.meet_scan.proofs.Making.{looks_then}
use Rattle.meet.proofs.waking.wake_entry.Goals as goal

pub returns-in-Given-clause-woken : goal.returns-in-Given-clause-woken
returns-in-Given-clause-woken g c given =
    woken_by c.args.pass.now.seen c.loop.pass.seen c.grant.new.pass.seen c.args.base c.args.entry.0 c.args.entry.1 c.loop.invariant.3 c.loop.invariant.4 c.in-Given.ensures.granted

pub loop-preserved : goal.loop-preserved
loop-preserved g c =
    let t = c.loop.pass.seen in
    let u = c.saw_committed.new.pass.seen in
    let grows = grows_then t c.grant.new.pass.seen u (grows_by _ _ t c.grant.new.pass.seen c.grant.ensures.learns) c.saw_committed.ensures.grows in
    let looks = looks_then c.args.pass.now c.loop.pass c.saw_committed.new.pass c.loop.invariant.5
    (looks_then c.loop.pass c.grant.new.pass c.saw_committed.new.pass (c.in-Late.ensures.made, c.grant.ensures.results) c.saw_committed.ensures.looks) in
    (tt, tt, c.saw_committed.ensures.here, grows_then c.args.pass.now.seen t u c.loop.invariant.3 grows, waits_more t u c.args.entry.0 c.args.entry.1 c.args.base grows c.loop.invariant.4, looks)
