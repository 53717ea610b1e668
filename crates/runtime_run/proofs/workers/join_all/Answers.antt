use Rattle.std.proofs.Common.{◌≡◌, subst}
use Rattle.std.specs.Prelude.{is_ok}
use Rattle.std.specs.Vec.Iter.{into_iter_items}
use Rattle.std.specs.declared.thread.PromisedHandle.{PromisedHandle}
use Rattle.runtime_worker.specs.declared.resident.Suspended.{Suspended}
use Rattle.cell.specs.Calls.{GridOf}
use Rattle.runtime_worker.specs.Workers.{IsLeavingsOf}
use Rattle.runtime_worker.specs.declared.worker.Leavings.{Leavings}
use Rattle.runtime_worker.specs.declared.worker.Worked.{Worked}
use Rattle.runtime_run.specs.declared.workers.GivesBack.{GivesBack}
use Rattle.cell.proofs.Lists.{all_is, all_head, all_rest, all_pushed}
use Rattle.runtime_run.proofs.workers.join_all.Goals as goal

pub loop-handle-preserved-then-is_err : goal.loop-handle-preserved-then-is_err
loop-handle-preserved-then-is_err g c =
    let H = λ (h : PromisedHandle Worked GivesBack). h.promise.cells.value ≡ c.args.cells.now in
    let P = λ (l : Leavings). IsLeavingsOf c.args.cells.now l in
    let all = all_is H _ _ c.in-Some.ensures.steps.0 c.loop-handle.invariant.2 in (
      tt,
      tt,
      all_rest H c.in-Some.handle (into_iter_items c.next.new.self) all,
      all_pushed P (is_ok c.push.result) c.loop-handle.back.items c.push.new.self.items c.join-left.result.left c.push.ensures.items c.loop-handle.invariant.3
          (subst (λ (grid : GridOf Suspended). IsLeavingsOf grid c.join-left.result.left) (all_head H c.in-Some.handle (into_iter_items c.next.new.self) all) c.join-left.ensures),
    )

pub loop-handle-preserved : goal.loop-handle-preserved
loop-handle-preserved g c =
    let H = λ (h : PromisedHandle Worked GivesBack). h.promise.cells.value ≡ c.args.cells.now in
    let P = λ (l : Leavings). IsLeavingsOf c.args.cells.now l in
    let all = all_is H _ _ c.in-Some.ensures.steps.0 c.loop-handle.invariant.2 in (
      tt,
      tt,
      all_rest H c.in-Some.handle (into_iter_items c.next.new.self) all,
      all_pushed P (is_ok c.push.result) c.loop-handle.back.items c.push.new.self.items c.join-left.result.left c.push.ensures.items c.loop-handle.invariant.3
          (subst (λ (grid : GridOf Suspended). IsLeavingsOf grid c.join-left.result.left) (all_head H c.in-Some.handle (into_iter_items c.next.new.self) all) c.join-left.ensures),
    )
