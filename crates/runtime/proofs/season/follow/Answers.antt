use Rattle.std.proofs.Common.{◌+◌, ◌*◌, ℕ, List, Option, subst, sym}
use Rattle.script_tree.specs.Processes.{Proc}
use Rattle.script.specs.Scripts.{script_of}
use Rattle.protocol_values.specs.declared.Commit.{Commit}
use Rattle.thread.specs.Machines.{Thread}
use Rattle.journal_replay.specs.Runs.{IsRun}
use Rattle.runtime.specs.Between.{CatchesUpAll, SomeIsSpent}
use Rattle.runtime.specs.Played.{ArePlayed, NeedsOneMore}
use Rattle.runtime.specs.Season.{LeadsTo}
use Rattle.runtime.proofs.LeadingOn.{caught_all, caught_is, one_more, played_is, run_is}
use Rattle.script.specs.Lines.{trees_of_script}
use Rattle.std.proofs.lemmas.Result.{IfOk-weaker}
use Rattle.runtime.proofs.season.follow.Goals as goal

pub catch_up_all-requires : goal.catch_up_all-requires
catch_up_all-requires c = λ t m e. (c.requires.closed.left.1 t m e).stopped

-- so far the run is one in the rows of these seasons
pub returns-then-not-branch-clause-leads : goal.returns-then-not-branch-clause-leads
returns-then-not-branch-clause-leads c =
    let ps : List Proc = (script_of c.args.script.now).processes in
    let x = c.args.closed in (
      subst (λ (n : ℕ). IsRun ps ((x.done + 1) * n) x.journal.items) c.requires.same (run_is ps x c.requires.closed),
      subst (λ (n : ℕ). ArePlayed ps n (x.done + 1) x.journal.items) c.requires.same (played_is ps x c.requires.closed),
    )

pub returns-then-not-are_spent-clause-leads : goal.returns-then-not-are_spent-clause-leads
returns-then-not-are_spent-clause-leads c =
    let ps : List Proc = (script_of c.args.script.now).processes in
    let x = c.args.closed in
    let caught : CatchesUpAll x.had.items x.commits.items x.machines.items c.catch_up_all.new.machines.items =
    subst (λ (z : List ℕ × List Commit). CatchesUpAll z.0 z.1 x.machines.items c.catch_up_all.new.machines.items) (λ i. (c.deref.ensures.value i, c.deref-2.ensures.value i)) (c.in_ok-catch_up_all.ensures.caught c.if-not-branch.false) in
    subst (λ (n : ℕ). LeadsTo ps x.done n c.args.seasons c.end_of.result) c.requires.same (c.end_of.ensures.leads ps c.args.seasons (caught_is ps x c.requires.closed c.catch_up_all.new.machines caught).0)

pub returns-then-closed-seasons-clause-leads : goal.returns-then-closed-seasons-clause-leads
returns-then-closed-seasons-clause-leads c =
    let ps : List Proc = (script_of c.args.script.now).processes in
    let x = c.args.closed in
    let machines = c.catch_up_all.new.machines.items in
    let caught : CatchesUpAll x.had.items x.commits.items x.machines.items machines =
    subst (λ (z : List ℕ × List Commit). CatchesUpAll z.0 z.1 x.machines.items machines) (λ i. (c.deref.ensures.value i, c.deref-2.ensures.value i)) (c.in_ok-catch_up_all.ensures.caught c.if-not-branch.false) in
    let all = caught_all ps x c.requires.closed machines caught in
    let spent : SomeIsSpent x.had.items x.ledger.rows machines =
    subst (λ (z : List ℕ × ℕ × List (Option Thread)). SomeIsSpent z.0 z.1 z.2) (λ i. (c.deref-4.ensures.value i, sym c.requires.same i, c.deref-3.ensures.value i)) (c.are_spent.ensures.0 c.if-not-are_spent.false) in
    (subst (λ (n : ℕ). NeedsOneMore ps n (x.done + 1)) c.requires.same (one_more ps x c.requires.closed machines all.0 all.1 spent), c.if-closed-seasons.true)

pub next_season-requires-clause-closed : goal.next_season-requires-clause-closed
next_season-requires-clause-closed c =
    let ps : List Proc = (script_of c.args.script.now).processes in
    let x = c.args.closed in
    let caught : CatchesUpAll x.had.items x.commits.items x.machines.items c.catch_up_all.new.machines.items =
    subst (λ (z : List ℕ × List Commit). CatchesUpAll z.0 z.1 x.machines.items c.catch_up_all.new.machines.items) (λ i. (c.deref.ensures.value i, c.deref-2.ensures.value i)) (c.in_ok-catch_up_all.ensures.caught c.if-not-branch.false) in
    (caught_is ps x c.requires.closed c.catch_up_all.new.machines caught).0

pub next_season-requires-clause-caught : goal.next_season-requires-clause-caught
next_season-requires-clause-caught c =
    let ps : List Proc = (script_of c.args.script.now).processes in
    let x = c.args.closed in
    let caught : CatchesUpAll x.had.items x.commits.items x.machines.items c.catch_up_all.new.machines.items =
    subst (λ (z : List ℕ × List Commit). CatchesUpAll z.0 z.1 x.machines.items c.catch_up_all.new.machines.items) (λ i. (c.deref.ensures.value i, c.deref-2.ensures.value i)) (c.in_ok-catch_up_all.ensures.caught c.if-not-branch.false) in
    (caught_is ps x c.requires.closed c.catch_up_all.new.machines caught).1

pub returns-then-not-are_spent-clause-trees : goal.returns-then-not-are_spent-clause-trees
returns-then-not-are_spent-clause-trees c runs =
    c.end_of.ensures.trees (trees_of_script c.args.script.now) (c.in_ok-catch_up_all.ensures.trees c.if-not-branch.false (trees_of_script c.args.script.now) runs.0, runs.1)

pub returns-clause-trees : goal.returns-clause-trees
returns-clause-trees c =
    IfOk-weaker c.next_season.result _ _
    (λ next leads runs. leads (c.in_ok-catch_up_all.ensures.trees c.if-not-branch.false (trees_of_script c.args.script.now) runs.0, runs.1)) c.next_season.ensures.trees
