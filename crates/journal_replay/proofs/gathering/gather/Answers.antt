use Rattle.std.proofs.Common.{◌≤◌, length, map, ◌∙◌, arith}
use Rattle.std.proofs.lemmas.Bool.{both_ways}
use Rattle.std.proofs.lemmas.List.{length-map}
use Rattle.std.proofs.lemmas.Option.{slice_get-get_or}
use Rattle.script_tree.specs.Processes.{proc_of}
use Rattle.journal_replay.specs.Runs.{config_of}
use Rattle.journal_replay.proofs.Gathered.{can-give, gathered-after, gathered-order, gathering-none, gives-one, stopped-if}
use Rattle.journal_replay.proofs.Lines.{gives-kept, woken-kept}
use Rattle.journal_replay.proofs.gathering.gather.Goals as goal

pub gathered-requires-clause-stopped : goal.gathered-requires-clause-stopped
gathered-requires-clause-stopped c = λ t k is.
    stopped-if (map proc_of c.args.processes.now) t (config_of c.args.commits.now t) k.machine (c.requires.known.each t k is).machine

pub loop-index-init : goal.loop-index-init
loop-index-init c = record {
  gathering =
      gathering-none (map proc_of c.args.processes.now) c.args.rows c.args.commits.now c.args.known.items c.in_ok-threads.threads c.requires.known c.in_ok-threads.ensures.gathered
      (λ t early. both_ways _ c.if-are_early.false (c.are_early.ensures.1 (t, early)));
  trees = c.in_ok-threads.ensures.trees;
}

pub give-requires : goal.give-requires
give-requires c =
    can-give (map proc_of c.args.processes.now) c.args.rows c.args.commits.now c.loop-index.index _ c.loop-index.threads c.requires.run c.loop-index.invariant.gathering c.loop-index-test.true
    (slice_get-get_or c.args.commits.now c.loop-index.index _ c.loop-index-test.true)

pub loop-index-preserved : goal.loop-index-preserved
loop-index-preserved c = record {
  gathering =
      gives-one (map proc_of c.args.processes.now) c.args.rows c.args.commits.now c.loop-index.index _ c.loop-index.threads c.give.new.self c.requires.run c.loop-index.invariant.gathering c.loop-index-test.true
      (slice_get-get_or c.args.commits.now c.loop-index.index _ c.loop-index-test.true)
      (c.in_ok-give.ensures.gives c.if-not-branch.false) c.give.ensures.rows.0 c.give.ensures.rows.1;
  trees = λ theirs. gives-kept _ _ _ (c.in_ok-give.ensures.gives c.if-not-branch.false) ∙ c.loop-index.invariant.trees theirs;
}

pub wake-requires : goal.wake-requires
wake-requires c =
    gathered-order (map proc_of c.args.processes.now) c.args.rows c.args.commits.now c.loop-index.index c.loop-index.threads c.loop-index.invariant.gathering
    (omega (arith, length-map c.args.processes.now proc_of, c.requires.few)) c.requires.placed

pub invariant_of-result : goal.invariant_of-result
invariant_of-result c =
    let ps = map proc_of c.args.processes.now in
    let past : length c.args.commits.now ≤ c.loop-index.index = omega (arith, c.loop-index-test.false) in
    let few : length ps ≤ 64 = omega (arith, length-map c.args.processes.now proc_of, c.requires.few) in
    record {
      reached = ∣ (
        ps,
        c.args.rows,
        c.args.commits.now,
        gathered-after ps c.args.rows c.args.commits.now c.loop-index.index c.loop-index.threads c.wake.new.self c.requires.run c.loop-index.invariant.gathering past few c.requires.placed
            c.wake.ensures.wakes c.wake.ensures.rows.0 c.wake.ensures.rows.1,
      ) ∣₁;
    }

pub returns-clause-trees : goal.returns-clause-trees
returns-clause-trees c = λ theirs. woken-kept c.wake.ensures.wakes.some ∙ c.loop-index.invariant.trees theirs

pub returns-clause-stands : goal.returns-clause-stands
returns-clause-stands c =
    let ps = map proc_of c.args.processes.now in
    let past : length c.args.commits.now ≤ c.loop-index.index = omega (arith, c.loop-index-test.false) in
    let few : length ps ≤ 64 = omega (arith, length-map c.args.processes.now proc_of, c.requires.few) in
    gathered-after ps c.args.rows c.args.commits.now c.loop-index.index c.loop-index.threads c.wake.new.self c.requires.run c.loop-index.invariant.gathering past few c.requires.placed
    c.wake.ensures.wakes c.wake.ensures.rows.0 c.wake.ensures.rows.1
