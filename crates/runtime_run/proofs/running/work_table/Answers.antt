use Rattle.runtime_worker.proofs.Machines.{is_housing}
use Rattle.runtime_run.proofs.Resting.{left_by, passes_of, rest_with}
use Rattle.runtime_run.proofs.running.work_table.Goals as goal

pub close_all-ledger-requires-clause-here : goal.close_all-ledger-requires-clause-here
close_all-ledger-requires-clause-here g c =
    passes_of c.args.cells c.in_ok-left.left.items c.in_ok-passes.passes.items c.in_ok-passes.rests.items c.in_ok-left.ensures c.in_ok-passes.ensures

pub returns-clause-acts : goal.returns-clause-acts
returns-clause-acts g c = c.close_all-ledger.ensures.acts (is_housing c.args.cells c.requires.table)

-- what the table hands out, and what the workers keep, stands over its first machines
pub returns-clause-machines : goal.returns-clause-machines
returns-clause-machines g c =
    let closed = c.close_all-ledger.ensures in
    let rests = rest_with c.args.cells c.in_ok-left.left.items c.in_ok-passes.passes.items c.in_ok-passes.rests.items c.in_ok-left.ensures c.in_ok-passes.ensures in
    left_by c.args.cells.first c.close_all-ledger.result.0 c.in_ok-passes.passes.items c.close_all-ledger.result.1.items c.in_ok-passes.rests.items c.in_ok-machines.machines.items
    closed.count (closed.machines (is_housing c.args.cells c.requires.table)) (λ p t results has h. closed.results p t results has h) rests c.in_ok-machines.ensures
