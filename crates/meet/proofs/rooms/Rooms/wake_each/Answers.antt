use Rattle.std.proofs.Common.{rules, sym, subst, ◌++◌, ◌∷◌, [], List}
use Rattle.protocol_values.specs.declared.Row.{Row}
use Rattle.cell.specs.Calls.{PassOf}
use Rattle.meet_scan.specs.Searches.{Grows}
use Rattle.meet.specs.Wakings.{Wakes}
use Rattle.meet_scan.proofs.Growing.{grows_then}
use Rattle.meet_scan.proofs.Making.{any_error, keeps_then}
use Rattle.meet.proofs.Woken.{wakes_more, wakes_push}
use Rattle.meet.proofs.rooms.Rooms.wake_each.Goals as goal

pub loop-preserved-in-Continue-1 : goal.loop-preserved-in-Continue-1
loop-preserved-in-Continue-1 g c =
    let t = c.loop.pass in
    let u = c.wake_entry.new.pass in
    let grows = c.wake_entry.ensures.grows in (
      tt,
      tt,
      c.wake_entry.ensures.here,
      grows_then c.args.pass.now.seen t.seen u.seen c.loop.invariant.3 grows,
      (search rules),
      (λ from before wakes. subst (Wakes c.args.base from u) (sym c.in_ok-push.ensures.items)
          (wakes_push c.args.base from t u c.loop.woken.items c.in-Some-take_from.other.0 c.in-Some-take_from.other.1 (grows_then from.seen c.args.pass.now.seen t.seen before c.loop.invariant.3) grows
          (c.loop.invariant.5 from before wakes) (c.wake_entry.ensures.woken c.if-wake_entry.true) c.if-wake_entry.ensures.made)),
      keeps_then c.args.pass.now t u c.loop.invariant.6 c.wake_entry.ensures.results,
    )

pub loop-preserved : goal.loop-preserved
loop-preserved g c =
    let t = c.loop.pass in
    let u = c.wake_entry.new.pass in
    let grows = c.wake_entry.ensures.grows in (
      tt,
      tt,
      c.wake_entry.ensures.here,
      grows_then c.args.pass.now.seen t.seen u.seen c.loop.invariant.3 grows,
      (search rules),
      (λ from before wakes. wakes_more c.args.base from t u c.loop.woken.items grows c.if-wake_entry.ensures.made (c.loop.invariant.5 from before wakes)),
      keeps_then c.args.pass.now t u c.loop.invariant.6 c.wake_entry.ensures.results,
    )

pub returns-in_err-push-clause-failed : goal.returns-in_err-push-clause-failed
returns-in_err-push-clause-failed g c =
    let t = c.loop.pass in
    let u = c.wake_entry.new.pass in
    let some : (from : PassOf g.row.M.Denot) → Grows from.seen c.args.pass.now.seen → Wakes c.args.base from c.args.pass.now c.args.woken.now.items → (rows : List Row) × Wakes c.args.base from u rows =
    λ from before wakes. (
      c.loop.woken.items ++ c.in-Some-take_from.other.0 ∷ [],
      wakes_push c.args.base from t u c.loop.woken.items c.in-Some-take_from.other.0 c.in-Some-take_from.other.1 (grows_then from.seen c.args.pass.now.seen t.seen before c.loop.invariant.3) c.wake_entry.ensures.grows
          (c.loop.invariant.5 from before wakes) (c.wake_entry.ensures.woken c.if-wake_entry.true) c.if-wake_entry.ensures.made,
    ) in
    any_error _ some

pub returns-in_err-add-clause-failed : goal.returns-in_err-add-clause-failed
returns-in_err-add-clause-failed g c =
    let t = c.loop.pass in
    let u = c.wake_entry.new.pass in
    let some : (from : PassOf g.row.M.Denot) → Grows from.seen c.args.pass.now.seen → Wakes c.args.base from c.args.pass.now c.args.woken.now.items → (rows : List Row) × Wakes c.args.base from u rows =
    λ from before wakes. (c.loop.woken.items, wakes_more c.args.base from t u c.loop.woken.items c.wake_entry.ensures.grows c.if-wake_entry.ensures.made (c.loop.invariant.5 from before wakes)) in
    any_error _ some
