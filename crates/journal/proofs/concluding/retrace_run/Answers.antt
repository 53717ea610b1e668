use Rattle.std.proofs.Common.{◌≡◌, List, map, subst, sym, ◌∙◌}
use Rattle.std.proofs.lemmas.Result.{IfOk-weaker}
use Rattle.script_tree.specs.Processes.{Proc, proc_of, tree_of}
use Rattle.protocol_values.specs.declared.Commit.{Commit}
use Rattle.journal_order.proofs.Ordering.{ordered-is-run}
use Rattle.journal_replay.specs.Lines.{trees_in}
use Rattle.journal_replay.specs.Replays.{StandsAfter}
use Rattle.journal_replay.specs.Runs.{IsRun}
use Rattle.journal.specs.Records.{CompletesRun, Records}
use Rattle.journal.proofs.concluding.retrace_run.Goals as goal

pub retrace-requires-clause-run : goal.retrace-requires-clause-run
retrace-requires-clause-run c =
    let ps : List Proc = map proc_of c.args.processes.now in
    let sorted = c.in_ok-commits.ensures in
    let ordered = ordered-is-run ps c.args.rows c.args.commits.items c.in_ok-commits.commits.items c.requires.run sorted.all sorted.ordered in
    subst (λ (cs : List Commit). IsRun ps c.args.rows cs) (sym c.deref.ensures.value) ordered.0

pub record_of-requires : goal.record_of-requires
record_of-requires c = c.in_ok-commits.ensures.ordered

pub returns-clause-trees : goal.returns-clause-trees
returns-clause-trees c =
    IfOk-weaker c.record_of.result (λ r. trees_in r.state ≡ trees_in c.in_ok-state.state) (λ r. trees_in r.state ≡ map tree_of c.args.processes.now)
    (λ r same. same ∙ c.in_ok-state.ensures.trees) c.record_of.ensures.trees

pub returns-clause-completes : goal.returns-clause-completes
returns-clause-completes c =
    let ps : List Proc = map proc_of c.args.processes.now in
    let sorted = c.in_ok-commits.ensures in
    let commits = c.in_ok-commits.commits.items in
    let stands = subst (λ (cs : List Commit). StandsAfter ps c.args.rows cs c.in_ok-state.state) c.deref.ensures.value c.in_ok-state.ensures.stands in
    IfOk-weaker c.record_of.result (Records commits c.in_ok-state.state) (CompletesRun ps c.args.rows c.args.commits.items)
    (λ r h. h ps c.args.rows stands c.args.commits.items sorted) c.record_of.ensures.records
