use Rattle.std.proofs.Common.{[], Some, sym, true}
use Rattle.std.proofs.lemmas.List.Elements.{All-pop}
use Rattle.runtime_worker.specs.Workers.{IsLeavingsOf, IsNewWorkerOf}
use Rattle.runtime_worker.specs.declared.worker.Leavings.{Leavings}
use Rattle.runtime_worker.specs.declared.worker.Worker.{Worker}
use Rattle.cell.proofs.Lists.{all_is, all_none, all_pushed}
use Rattle.runtime_run.proofs.workers.work_alone.Goals as goal

pub work_on-left-requires : goal.work_on-left-requires
work_on-left-requires g c =
    (All-pop (λ (w : Worker). IsNewWorkerOf c.args.crew.now.cells.now c.args.crew.now.shared.now w) c.args.workers.items c.pop.new.self.items (Some c.in-Some.worker) c.in-Some.ensures.items c.requires).1

pub returns : goal.returns
returns g c =
    let P = λ (l : Leavings). IsLeavingsOf c.args.crew.now.cells.now l in
    all_pushed P true c.in_ok-back.back.items c.push.new.self.items c.work_on-left.result.left c.in_ok-push.ensures.items (all_is P [] _ (sym c.in_ok-back.ensures.items) (all_none P)) c.work_on-left.ensures
