use Rattle.std.proofs.Common.{map}
use Rattle.std.proofs.lemmas.Result.{MatchResult-weaker}
use Rattle.script_tree.specs.Processes.{proc_of}
use Rattle.protocol_ledger.specs.Ledgers.{commits_in}
use Rattle.journal.specs.Records.{IsOrdering}
use Rattle.journal.proofs.Completing.{never-refuses, refuses}
use Rattle.journal.proofs.record.complete.Goals as goal

pub complete_ordered-requires-clause-in_order : goal.complete_ordered-requires-clause-in_order
complete_ordered-requires-clause-in_order c = c.in_ok-commits.ensures.in_order

pub returns-clause-answer : goal.returns-clause-answer
returns-clause-answer c =
    let ps = map proc_of c.args.processes.now in
    let given = commits_in c.args.ledger.now in
    let commits = c.in_ok-commits.commits.items in
    let told = c.in_ok-commits.ensures in
    let order : IsOrdering given commits = record { all = told.once; ordered = told.in_order } in
    MatchResult-weaker c.complete_ordered.result c.complete_ordered.ensures (λ r h. h given order) (λ fault h. refuses ps c.args.rows given commits fault order h)

pub returns-clause-sure : goal.returns-clause-sure
returns-clause-sure c of enough =
    let ps = map proc_of c.args.processes.now in
    let told = c.in_ok-commits.ensures in
    MatchResult-weaker c.complete_ordered.result c.complete_ordered.ensures (λ r h. tt)
    (λ fault h. never-refuses ps c.args.rows c.args.ledger.now c.in_ok-commits.commits.items fault told.lawful (record { all = told.once; ordered = told.in_order }) h of enough)
