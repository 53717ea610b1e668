use Rattle.std.proofs.Common.{List, map}
use Rattle.std.proofs.lemmas.Result.{IfOk-weaker}
use Rattle.script_tree.specs.Processes.{Proc, proc_of}
use Rattle.protocol_ledger.specs.Openings.{opening_of}
use Rattle.journal_order.proofs.Ordering.{ordered-is-run}
use Rattle.journal.specs.Records.{CompletesOrdered, CompletesRun}
use Rattle.journal.proofs.Telling.{gone-moved, told-moved}
use Rattle.journal.proofs.concluding.conclude_run.Goals as goal

pub conclude_ordered-requires-clause-in_order : goal.conclude_ordered-requires-clause-in_order
conclude_ordered-requires-clause-in_order c = c.in_ok-commits.ensures.ordered

pub conclude_ordered-requires-clause-run : goal.conclude_ordered-requires-clause-run
conclude_ordered-requires-clause-run c =
    let sorted = c.in_ok-commits.ensures in
    (ordered-is-run (map proc_of c.args.processes.now) c.args.rows c.args.commits.items c.in_ok-commits.commits.items c.requires.run sorted.all sorted.ordered).0

pub conclude_ordered-requires-clause-told : goal.conclude_ordered-requires-clause-told
conclude_ordered-requires-clause-told c =
    let ps : List Proc = map proc_of c.args.processes.now in
    let sorted = c.in_ok-commits.ensures in
    let ordered = ordered-is-run ps c.args.rows c.args.commits.items c.in_ok-commits.commits.items c.requires.run sorted.all sorted.ordered in
    told-moved ps c.args.commits.items c.in_ok-commits.commits.items (opening_of c.args.opening.now) sorted.all ordered.1 c.requires.told

pub conclude_ordered-requires-clause-machines : goal.conclude_ordered-requires-clause-machines
conclude_ordered-requires-clause-machines c =
    let ps : List Proc = map proc_of c.args.processes.now in
    let sorted = c.in_ok-commits.ensures in
    let ordered = ordered-is-run ps c.args.rows c.args.commits.items c.in_ok-commits.commits.items c.requires.run sorted.all sorted.ordered in
    gone-moved ps c.args.commits.items c.in_ok-commits.commits.items c.args.machines.items ordered.1 c.requires.machines

pub returns-clause-completes : goal.returns-clause-completes
returns-clause-completes c =
    let ps : List Proc = map proc_of c.args.processes.now in
    let sorted = c.in_ok-commits.ensures in
    IfOk-weaker c.conclude_ordered.result (CompletesOrdered ps c.args.rows c.in_ok-commits.commits.items) (CompletesRun ps c.args.rows c.args.commits.items)
    (λ r h. h c.args.commits.items sorted) c.conclude_ordered.ensures.completes
