use Rattle.std.proofs.Common.{◌↔◌, Contains, List, map, subst, sym}
use Rattle.std.proofs.lemmas.Result.{IfOk-weaker}
use Rattle.script_tree.specs.Processes.{Proc, proc_of}
use Rattle.protocol_values.specs.declared.Commit.{Commit}
use Rattle.protocol_ledger.specs.Ledgers.{HasCommit, commits_in}
use Rattle.protocol_ledger.specs.Openings.{opening_of}
use Rattle.journal_ledger.proofs.Leading.{ledger-is-run}
use Rattle.journal_ledger.proofs.Opening.{first-tells-run}
use Rattle.journal.specs.Records.{Completes, CompletesOrdered}
use Rattle.journal.proofs.Telling.{gone-of}
use Rattle.journal.proofs.concluding.conclude.Goals as goal

pub opening_by-requires : goal.opening_by-requires
opening_by-requires c = λ d. subst (λ (commits : List Commit). Contains commits d ↔ HasCommit c.args.ledger.now d) (sym c.deref.ensures.value) (c.in_ok-commits.ensures.members d)

pub conclude_ordered-requires-clause-in_order : goal.conclude_ordered-requires-clause-in_order
conclude_ordered-requires-clause-in_order c = c.in_ok-commits.ensures.in_order

pub conclude_ordered-requires-clause-run : goal.conclude_ordered-requires-clause-run
conclude_ordered-requires-clause-run c =
    let told = c.in_ok-commits.ensures in
    ledger-is-run (map proc_of c.args.processes.now) c.args.rows c.args.ledger.now c.in_ok-commits.commits.items told.lawful c.requires.of.0 c.requires.of.1 (record { all = told.once; ordered = told.in_order })

pub conclude_ordered-requires-clause-told : goal.conclude_ordered-requires-clause-told
conclude_ordered-requires-clause-told c =
    let told = c.in_ok-commits.ensures in
    first-tells-run (map proc_of c.args.processes.now) c.args.rows c.args.ledger.now c.in_ok-commits.commits.items told.lawful c.requires.of.0 c.requires.of.1 (record { all = told.once; ordered = told.in_order })
    (opening_of c.in_ok-opening.opening) c.in_ok-opening.ensures.end

pub conclude_ordered-requires-clause-machines : goal.conclude_ordered-requires-clause-machines
conclude_ordered-requires-clause-machines c =
    let told = c.in_ok-commits.ensures in
    gone-of (map proc_of c.args.processes.now) c.args.rows c.args.ledger.now c.in_ok-commits.commits.items c.args.machines.items told.lawful c.requires.of.0 c.requires.of.1 (record { all = told.once; ordered = told.in_order }) c.requires.machines

pub returns-clause-completes : goal.returns-clause-completes
returns-clause-completes c =
    let ps : List Proc = map proc_of c.args.processes.now in
    let told = c.in_ok-commits.ensures in
    IfOk-weaker c.conclude_ordered.result (CompletesOrdered ps c.args.rows c.in_ok-commits.commits.items) (Completes ps c.args.rows c.args.ledger.now)
    (λ r h. h (commits_in c.args.ledger.now) (record { all = told.once; ordered = told.in_order })) c.conclude_ordered.ensures.completes
