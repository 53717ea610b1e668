use Rattle.std.proofs.Common.{◌≡◌, ◌≤◌, ◌+◌, ◌*◌, subst, arith}
use Rattle.std.proofs.lemmas.Nat.{mul-le}
use Rattle.script.specs.Scripts.{script_of}
use Rattle.runtime.specs.Played.{NeedsOneMore}
use Rattle.script.specs.Lines.{trees_of_script}
use Rattle.runtime.specs.Season.{LeadsTo, NextRuns}
use Rattle.runtime_run.specs.Syncs.{AllSyncAtMost}
use Rattle.runtime.proofs.LeadingOn.{all_rows, ends_wider}
use Rattle.runtime.proofs.seasons.work_seasons.Goals as goal

pub returns-in-End-clause-ends : goal.returns-in-End-clause-ends
returns-in-End-clause-ends g c =
    let ps = (script_of c.args.script.now).processes in
    let used = c.rows_used-used.result in
    let done = c.in_ok-closed.closed.done in
    let i = c.loop-closed.invariant in
    let leads = subst (LeadsTo ps done used c.args.seasons) c.in-End.is c.in_ok-next.ensures.leads in
    let fits = c.rows_used-used.ensures.range in
    let few : done + 1 ≤ c.args.seasons = omega (arith, c.in_ok-closed.ensures.closed.1, i.1) in (
      ends_wider ps ((done + 1) * used) (c.args.seasons * c.args.rows) c.in-End.commits.items c.in-End.standing (mul-le (done + 1) used c.args.seasons c.args.rows few fits.1) leads.0,
      record { each = used; count = done + 1; narrow = fits.1; few = few; played = leads.1 },
    )

pub returns-in-Spent-clause-ends : goal.returns-in-Spent-clause-ends
returns-in-Spent-clause-ends g c =
    let ps = (script_of c.args.script.now).processes in
    let used = c.rows_used-used.result in
    let done = c.in_ok-closed.closed.done in
    let i = c.loop-closed.invariant in
    let leads = subst (LeadsTo ps done used c.args.seasons) c.in-Spent.is c.in_ok-next.ensures.leads in
    let least = leads.1 in
    let all : done + 1 ≡ c.args.seasons = omega (arith, c.in_ok-closed.ensures.closed.1, i.1, least) in
    all_rows ps used c.args.rows c.args.seasons c.rows_used-used.ensures.range.1 (λ less. subst (AllSyncAtMost used) c.processes.ensures.value (c.rows_used-used.ensures.enough less)) (subst (NeedsOneMore ps used) all leads.0)

pub returns-in-End-clause-trees : goal.returns-in-End-clause-trees
returns-in-End-clause-trees g c =
    let trees = trees_of_script c.args.script.now in
    subst (NextRuns trees) c.in-End.is (c.in_ok-next.ensures.trees (c.in_ok-closed.ensures.trees trees c.loop-closed.invariant.3))

pub loop-closed-preserved : goal.loop-closed-preserved
loop-closed-preserved g c =
    let ps = (script_of c.args.script.now).processes in
    let used = c.rows_used-used.result in
    let trees = trees_of_script c.args.script.now in
    let leads = subst (LeadsTo ps c.in_ok-closed.closed.done used c.args.seasons) c.in-Season.is c.in_ok-next.ensures.leads in
    (leads.0, leads.2, leads.3, subst (NextRuns trees) c.in-Season.is (c.in_ok-next.ensures.trees (c.in_ok-closed.ensures.trees trees c.loop-closed.invariant.3)))
