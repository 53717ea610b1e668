use Rattle.std.proofs.Common.{rules}
use Rattle.meet_scan.proofs.Growing.{grows_then}
use Rattle.meet_scan.proofs.Making.{any_error, keeps_then}
use Rattle.meet.proofs.Woken.{some_wakes_more, wakes_more, wakes_some}
use Rattle.meet.proofs.rooms.Rooms.wake_room.Goals as goal

pub returns-then-not-shared-clause-woken : goal.returns-then-not-shared-clause-woken
returns-then-not-shared-clause-woken g c =
    (wakes_more c.args.base c.args.pass.now c.wake_each-each.new.pass c.put_back-put.new.pass c.wake_each-each.new.woken.items c.put_back-put.ensures.grows c.put_back-put.ensures.looks.0
    (c.in_ok-each.ensures.woken c.args.pass.now c.loop.invariant.3 c.loop.invariant.5)).0.0

pub returns-then-not-shared-clause-once : goal.returns-then-not-shared-clause-once
returns-then-not-shared-clause-once g c = (c.in_ok-each.ensures.woken c.args.pass.now c.loop.invariant.3 c.loop.invariant.5).0.1

pub returns-then-not-shared-clause-made : goal.returns-then-not-shared-clause-made
returns-then-not-shared-clause-made g c =
    (wakes_more c.args.base c.args.pass.now c.wake_each-each.new.pass c.put_back-put.new.pass c.wake_each-each.new.woken.items c.put_back-put.ensures.grows c.put_back-put.ensures.looks.0
    (c.in_ok-each.ensures.woken c.args.pass.now c.loop.invariant.3 c.loop.invariant.5)).1

pub returns-in_err-put-clause-failed : goal.returns-in_err-put-clause-failed
returns-in_err-put-clause-failed g c =
    any_error _
    (some_wakes_more c.args.base c.args.pass.now c.wake_each-each.new.pass c.put_back-put.new.pass c.put_back-put.ensures.grows c.put_back-put.ensures.looks.0
    (wakes_some c.args.base c.args.pass.now c.loop.pass c.wake_each-each.new.pass c.loop.woken.items c.wake_each-each.new.woken.items c.wake_each-each.result c.wake_each-each.ensures.woken c.wake_each-each.ensures.failed c.loop.invariant.3 c.loop.invariant.5))

pub returns-in_err-each-clause-failed : goal.returns-in_err-each-clause-failed
returns-in_err-each-clause-failed g c =
    any_error _
    (some_wakes_more c.args.base c.args.pass.now c.wake_each-each.new.pass c.put_back-put.new.pass c.put_back-put.ensures.grows c.put_back-put.ensures.looks.0
    (c.in_err-each.ensures.failed c.args.pass.now c.loop.invariant.3 c.loop.invariant.5))

pub loop-preserved : goal.loop-preserved
loop-preserved g c =
    let s = c.args.pass.now in
    let t = c.loop.pass in
    let u = c.wake_each-each.new.pass in
    let v = c.put_back-put.new.pass in (
      tt,
      tt,
      c.put_back-put.ensures.here,
      grows_then s.seen t.seen v.seen c.loop.invariant.3 (grows_then t.seen u.seen v.seen c.wake_each-each.ensures.grows c.put_back-put.ensures.grows),
      (search rules),
      wakes_more c.args.base s u v c.wake_each-each.new.woken.items c.put_back-put.ensures.grows c.put_back-put.ensures.looks.0 (c.in_ok-each.ensures.woken s c.loop.invariant.3 c.loop.invariant.5),
      keeps_then s t v c.loop.invariant.6 (keeps_then t u v c.wake_each-each.ensures.results c.put_back-put.ensures.looks.1),
    )
