use Rattle.std.proofs.Common.{◌≡◌, List, subst, sym}
use Rattle.script_tree.specs.Processes.{Proc}
use Rattle.script_tree.specs.declared.tree.Block.{Block as Tree}
use Rattle.journal_ledger.specs.Ledgers.{IsLedgerOf}
use Rattle.script.specs.Scripts.{script_of}
use Rattle.journal.specs.Concluding.{AreStanding, RunTrees}
use Rattle.journal_replay.specs.Lines.{trees_in}
use Rattle.journal.specs.Records.{Completes}
use Rattle.runtime_run.proofs.Completed.{completed}
use Rattle.runtime_run.proofs.running.run_gated.Goals as goal

-- each row of the ledger was opened as its process offers there
pub conclude-requires-clause-of : goal.conclude-requires-clause-of
conclude-requires-clause-of g c =
    let told = c.in_ok-ledger.ensures in
    (subst (λ (ps : List Proc). IsLedgerOf ps c.in_ok-ledger.ledger) (sym c.processes.ensures.value) told.run.0, told.run.1)

pub conclude-requires-clause-machines : goal.conclude-requires-clause-machines
conclude-requires-clause-machines g c =
    subst (λ (ps : List Proc). AreStanding ps c.in_ok-ledger.ledger c.in_ok-ledger.machines.items) (sym c.processes.ensures.value) c.in_ok-ledger.ensures.machines

pub returns-in-Ok-clause-headline : goal.returns-in-Ok-clause-headline
returns-in-Ok-clause-headline g c =
    let ledger = c.in_ok-ledger.ledger in
    let record' = c.in-Ok.record in
    completed (script_of c.args.script.now).processes c.args.rows ledger record'
    (subst (λ (ps : List Proc). Completes ps c.args.rows ledger record') c.processes.ensures.value c.in-Ok.ensures.completes)

pub returns-in-Ok-clause-completes : goal.returns-in-Ok-clause-completes
returns-in-Ok-clause-completes g c =
    let ledger = c.in_ok-ledger.ledger in
    let record' = c.in-Ok.record in (
      ledger,
      c.in_ok-ledger.ensures.lawful,
      c.in_ok-ledger.ensures.run.0,
      c.in_ok-ledger.ensures.run.1,
      subst (λ (ps : List Proc). Completes ps c.args.rows ledger record') c.processes.ensures.value c.in-Ok.ensures.completes,
    )

pub returns-in-Ok-clause-trees : goal.returns-in-Ok-clause-trees
returns-in-Ok-clause-trees g c =
    subst (λ (trees : List Tree). RunTrees trees c.in_ok-ledger.machines.items → trees_in c.in-Ok.record.state ≡ trees) c.processes.ensures.trees c.in-Ok.ensures.trees c.in_ok-ledger.ensures.trees
