use Rattle.std.proofs.Common.{◌≡◌, List, map, subst, sym, ◌∙◌, arith}
use Rattle.std.proofs.lemmas.List.{length-map}
use Rattle.std.proofs.lemmas.Result.{IfOk-weaker}
use Rattle.script_tree.specs.Processes.{Proc, proc_of, tree_of}
use Rattle.script_tree.specs.declared.tree.Block.{Block as Tree}
use Rattle.protocol_values.specs.declared.Commit.{Commit}
use Rattle.protocol_ledger.specs.Openings.{opening_of}
use Rattle.journal_replay.specs.Gathering.{AreKnown}
use Rattle.journal_replay.specs.Replays.{StandsAfter}
use Rattle.journal_replay.specs.Runs.{IsRun}
use Rattle.journal_replay.specs.Lines.{trees_in}
use Rattle.journal.specs.Concluding.{RunTrees}
use Rattle.journal.specs.Records.{CompletesOrdered, Records}
use Rattle.journal.proofs.Telling.{are-known, known-trees}
use Rattle.journal.proofs.concluding.conclude_ordered.Goals as goal

pub known_by-requires : goal.known_by-requires
known_by-requires c = omega (arith, c.requires.machines.0, length-map c.args.processes.now proc_of, c.requires.few)

pub gather-requires-clause-run : goal.gather-requires-clause-run
gather-requires-clause-run c = subst (λ (cs : List Commit). IsRun (map proc_of c.args.processes.now) c.args.rows cs) (sym c.deref.ensures.value) c.requires.run

pub gather-requires-clause-known : goal.gather-requires-clause-known
gather-requires-clause-known c =
    subst (λ (cs : List Commit). AreKnown (map proc_of c.args.processes.now) cs c.in_ok-known.known.items) (sym c.deref.ensures.value)
    (are-known (map proc_of c.args.processes.now) c.args.commits.items (opening_of c.args.opening.now) c.requires.told c.args.machines.items c.in_ok-known.known.items c.requires.machines c.in_ok-known.ensures)

pub returns-clause-trees : goal.returns-clause-trees
returns-clause-trees c =
    let trees : List Tree = map tree_of c.args.processes.now in
    IfOk-weaker c.record_of.result (λ r. trees_in r.state ≡ trees_in c.in_ok-state.state) (λ r. RunTrees trees c.args.machines.items → trees_in r.state ≡ trees)
    (λ r same run. same ∙ c.in_ok-state.ensures.trees (known-trees c.args.opening.now.threads.items c.args.opening.now.nacks.items trees c.args.machines.items c.in_ok-known.known.items c.in_ok-known.ensures run)) c.record_of.ensures.trees

pub returns-clause-completes : goal.returns-clause-completes
returns-clause-completes c =
    let ps : List Proc = map proc_of c.args.processes.now in
    let commits = c.args.commits.items in
    let stands = subst (λ (cs : List Commit). StandsAfter ps c.args.rows cs c.in_ok-state.state) c.deref.ensures.value c.in_ok-state.ensures.stands in
    IfOk-weaker c.record_of.result (Records commits c.in_ok-state.state) (CompletesOrdered ps c.args.rows commits) (λ r h. h ps c.args.rows stands) c.record_of.ensures.records
