use Rattle.std.proofs.Common.{◌≡◌, [], sym}
use Rattle.std.specs.Prelude.{is_ok}
use Rattle.std.specs.Vec.Iter.{into_iter_items}
use Rattle.std.specs.declared.thread.PromisedHandle.{PromisedHandle}
use Rattle.runtime_worker.specs.Workers.{IsNewWorkerOf}
use Rattle.runtime_worker.specs.declared.worker.Worker.{Worker}
use Rattle.runtime_worker.specs.declared.worker.Worked.{Worked}
use Rattle.runtime_run.specs.declared.workers.GivesBack.{GivesBack}
use Rattle.cell.proofs.Lists.{all_is, all_none, all_rest, all_pushed}
use Rattle.runtime_run.proofs.workers.start_all.Goals as goal

pub loop-worker-preserved : goal.loop-worker-preserved
loop-worker-preserved g c =
    let crew = c.args.crew.now in
    let H = λ (h : PromisedHandle Worked GivesBack). h.promise.cells.value ≡ crew.cells.now in
    let P = λ (w : Worker). IsNewWorkerOf crew.cells.now crew.shared.now w in (
      tt,
      tt,
      all_rest P c.in-Some.worker (into_iter_items c.next.new.self) (all_is P _ _ c.in-Some.ensures.steps.0 c.loop-worker.invariant.2),
      all_pushed H (is_ok c.push.result) c.loop-worker.handles.items c.push.new.self.items c.in-Ok.handle c.push.ensures.items c.loop-worker.invariant.3 c.in-Ok.ensures,
    )

pub loop-worker-init : goal.loop-worker-init
loop-worker-init g c =
    let crew = c.args.crew.now in
    let H = λ (h : PromisedHandle Worked GivesBack). h.promise.cells.value ≡ crew.cells.now in
    let P = λ (w : Worker). IsNewWorkerOf crew.cells.now crew.shared.now w in
    (tt, tt, all_is P _ _ (sym c.into_iter-worker-iterator.ensures.into_iter_gives.0) c.requires.workers, all_is H [] _ (sym c.requires.handles) (all_none H))
