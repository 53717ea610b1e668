use Rattle.cell.specs.Calls.{IsRowOf}
use Rattle.cell_table.specs.Sight.{Has}
use Rattle.runtime_worker.specs.declared.nacks.Nacks.{Nacks}
use Rattle.runtime_worker.proofs.Turning.{some_kept}
use Rattle.std.proofs.Common.{subst, sym}
use Rattle.runtime_worker.specs.Workers.{IsWorkerOf}
use Rattle.runtime_worker.specs.declared.worker.Worker.{Worker}
use Rattle.runtime_worker.proofs.crew.Crew.turn.Goals as goal
use Rattle.runtime_worker.proofs.crew.Crew.turn.Goals.{then-entered+in_ok-wake_end, else-entered}

-- the row that was opened still is, behind the first turns of those that were started
pub meet-requires-2-clause-opened : goal.meet-requires-2-clause-opened
meet-requires-2-clause-opened g c =
    let cells = c.args.self.now.cells.now in
    let before = c.resume.new.pass.seen in
    let after = c.begin_each.new.worker.pass.seen in
    let rows = c.begin_each.ensures.rows in
    some_kept c.in_ok-entered.entered.opened
    (λ (nacks : Nacks). IsRowOf cells c.args.next × Has before.held c.args.next × Has before.opened c.args.next)
    (λ (nacks : Nacks). IsRowOf cells c.args.next × Has after.held c.args.next × Has after.opened c.args.next)
    (λ nacks h. (h.0, rows.0 c.args.next h.1, rows.1 c.args.next h.2)) c.in_ok-entered.ensures.opened

pub returns : goal.returns
returns g c =
    let P = λ (w : Worker). IsWorkerOf c.args.self.now w in
    elim c.if-entered.branch [
      | then-entered+in_ok-wake_end w ↦ subst P (sym w.worker-is) w.wake_end.ensures
      | else-entered w ↦ subst P (sym w.worker-is) c.follow_begun.ensures
    ]
