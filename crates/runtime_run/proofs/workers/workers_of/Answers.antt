use Rattle.std.proofs.Common.{rules, ◌≡◌, [], sym, Some, true}
use Rattle.std.proofs.lemmas.List.Elements.{All-pop}
use Rattle.std.specs.Vec.Iter.{into_iter_items}
use Rattle.cell.specs.Calls.{PassOf}
use Rattle.meet.specs.Rooms.{IsMeetPassOf}
use Rattle.meet_queues.specs.Ends.{IsEndOf}
use Rattle.runtime_worker.specs.Workers.{IsNewPassOf, IsNewWorkerOf}
use Rattle.runtime_worker.specs.declared.resident.Suspended.{Suspended}
use Rattle.runtime_worker.specs.declared.worker.Worker.{Worker}
use Rattle.cell.proofs.Lists.{all_is, all_head, all_none, all_rest, all_pushed}
use Rattle.runtime_run.proofs.workers.workers_of.Goals as goal

pub loop-pass-preserved : goal.loop-pass-preserved
loop-pass-preserved g c =
    let crew = c.args.crew.now in
    let before = c.loop-pass.invariant in
    let P = λ (p : PassOf Suspended). IsNewPassOf crew.cells.now p in
    let left = into_iter_items c.next.new.self in
    let all = all_is P _ _ c.in-Some.ensures.steps.0 before.2 in
    let room = All-pop (IsMeetPassOf crew.shared.now.meet) c.loop-pass.lanes.items c.pop.new.self.items (Some c.in-Some-pop.lanes) c.in-Some-pop.ensures.items before.3 in
    let popped = All-pop (IsEndOf crew.shared.now.ready) c.loop-pass.ends.items c.pop-in-loop-pass.new.self.items (Some c.in-Some-pop-2.end) c.in-Some-pop-2.ensures.items before.4 in
    let worker : Worker = record { pass = c.in-Some.pass; rests = c.new-rests.result; lanes = c.in-Some-pop.lanes; end = c.in-Some-pop-2.end; number = c.loop-pass.number } in (
      tt,
      tt,
      all_rest P c.in-Some.pass left all,
      room.0,
      popped.0,
      all_pushed (λ (w : Worker). IsNewWorkerOf crew.cells.now crew.shared.now w) true c.loop-pass.workers.items c.push.new.self.items worker c.in_ok-push.ensures.items before.5 (all_head P c.in-Some.pass left all, room.1, popped.1, c.new-rests.ensures.items),
    )

pub loop-pass-init : goal.loop-pass-init
loop-pass-init g c =
    let crew = c.args.crew.now in (
      tt,
      tt,
      all_is (λ (p : PassOf Suspended). IsNewPassOf crew.cells.now p) _ _ (sym c.into_iter-pass-iterator.ensures.into_iter_gives.0) c.requires.passes,
      c.requires.lanes,
      c.requires.ends,
      all_is (λ (w : Worker). IsNewWorkerOf crew.cells.now crew.shared.now w) [] _ (let e : c.in_ok-workers.workers.items ≡ [] = (search rules) in sym e) (all_none (λ (w : Worker). IsNewWorkerOf crew.cells.now crew.shared.now w)),
    )
