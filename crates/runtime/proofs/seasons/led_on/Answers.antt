use Rattle.std.proofs.Common.{◌≡◌, List, Option, subst, sym, ◌∙◌}
use Rattle.std.proofs.lemmas.Result.{IfOk-weaker}
use Rattle.script_tree.specs.Processes.{Proc}
use Rattle.script_tree.specs.declared.tree.Block.{Block as Tree}
use Rattle.script.specs.Lines.{trees_of_script}
use Rattle.journal_replay.specs.Lines.{trees_in}
use Rattle.script.specs.Scripts.{script_of}
use Rattle.journal_ledger.specs.Behind.{TellsRun}
use Rattle.journal_replay.specs.Runs.{IsRun}
use Rattle.journal.specs.Concluding.{AreGone, RunTrees}
use Rattle.protocol_ledger.specs.Openings.{opening_of}
use Rattle.runtime.specs.Season.{EndRuns, EndsRun}
use Rattle.runtime.specs.declared.season.AtEnd.{AtEnd}
use Rattle.runtime.proofs.LeadingOn.{ends_run}
use Rattle.runtime.proofs.seasons.led_on.Goals as goal

pub retrace_run-requires-clause-run : goal.retrace_run-requires-clause-run
retrace_run-requires-clause-run c =
    subst (λ (ps : List Proc). IsRun ps c.args.rows c.args.commits.items) (sym c.processes-processes.ensures.value)
    (ends_run (script_of c.args.script.now).processes c.args.rows c.args.commits.items c.args.standing c.requires.run)

pub conclude_run-requires-clause-run : goal.conclude_run-requires-clause-run
conclude_run-requires-clause-run c =
    subst (λ (ps : List Proc). IsRun ps c.args.rows c.args.commits.items) (sym c.processes-processes.ensures.value)
    (ends_run (script_of c.args.script.now).processes c.args.rows c.args.commits.items c.args.standing c.requires.run)

pub conclude_run-requires-clause-told : goal.conclude_run-requires-clause-told
conclude_run-requires-clause-told c =
    let ends = subst (λ (s : Option AtEnd). EndsRun (script_of c.args.script.now).processes c.args.rows c.args.commits.items s) c.in-Some.is c.requires.run in
    subst (λ (ps : List Proc). TellsRun ps c.args.commits.items (opening_of c.in-Some.field-0.opening)) (sym c.processes-processes.ensures.value) ends.1

pub conclude_run-requires-clause-machines : goal.conclude_run-requires-clause-machines
conclude_run-requires-clause-machines c =
    let ends = subst (λ (s : Option AtEnd). EndsRun (script_of c.args.script.now).processes c.args.rows c.args.commits.items s) c.in-Some.is c.requires.run in
    subst (λ (ps : List Proc). AreGone ps c.args.commits.items c.in-Some.field-0.machines.items) (sym c.processes-processes.ensures.value) ends.2

pub returns-in_default-clause-trees : goal.returns-in_default-clause-trees
returns-in_default-clause-trees c = IfOk-weaker c.retrace_run.result _ _ (λ r same runs. same ∙ c.processes-processes.ensures.trees) c.retrace_run.ensures.trees

pub returns-clause-trees : goal.returns-clause-trees
returns-clause-trees c =
    IfOk-weaker c.conclude_run.result _ _
    (λ r same runs.
    subst (λ (ts : List Tree). RunTrees ts c.in-Some.field-0.machines.items → trees_in r.state ≡ ts) c.processes-processes.ensures.trees same
    (subst (λ (s : Option AtEnd). EndRuns (trees_of_script c.args.script.now) s) c.in-Some.is runs)) c.conclude_run.ensures.trees
