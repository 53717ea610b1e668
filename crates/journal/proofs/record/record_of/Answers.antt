use Rattle.std.proofs.Common.{sym, ◌∙◌}
use Rattle.journal.proofs.Completing.{completes}
use Rattle.journal.proofs.record.record_of.Goals as goal

pub returns-clause-records : goal.returns-clause-records
returns-clause-records c = λ ps rows stands given order.
    let settled = c.in_ok-state.ensures.settles ps rows c.args.commits.items stands in
    completes ps rows given c.args.commits.items c.in_ok-state.added.items c.in_ok-journal.journal.items c.in_ok-state.state c.in_ok-ends.ends.items _ c.len-tail.result
    order stands.run settled.0 settled.1 c.in_ok-journal.ensures.0 c.in_ok-journal.ensures.1
    c.in_ok-ends.ensures c.in_ok-outputs.ensures (sym c.in_ok-state.added.ok.0 ∙ sym c.len-tail.ensures)
