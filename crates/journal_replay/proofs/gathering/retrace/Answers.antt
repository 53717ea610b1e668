use Rattle.std.proofs.Common.{◌≤◌, List, length, map, subst, ◌∙◌, arith}
use Rattle.std.proofs.lemmas.List.{take_all}
use Rattle.script_tree.specs.Processes.{proc_of}
use Rattle.protocol_values.specs.declared.Commit.{Commit}
use Rattle.journal_replay.specs.Reaching.{AreAfter}
use Rattle.journal_replay.proofs.Replaying.{after-order, may-be, replay-goes}
use Rattle.journal_replay.proofs.Lines.{commits-kept}
use Rattle.journal_replay.proofs.gathering.retrace.Goals as goal

pub loop-index-init : goal.loop-index-init
loop-index-init c = record {
  after = c.in_ok-threads.ensures.after;
  trees = c.in_ok-threads.ensures.trees;
}

pub apply-requires-clause-may : goal.apply-requires-clause-may
apply-requires-clause-may c =
    may-be (map proc_of c.args.processes.now) c.args.rows c.args.commits.now c.loop-index.index _ c.loop-index.threads c.loop-index.invariant.after c.requires.run c.loop-index-test.true

pub apply-requires-clause-order : goal.apply-requires-clause-order
apply-requires-clause-order c = after-order (map proc_of c.args.processes.now) c.args.rows _ c.loop-index.threads c.loop-index.invariant.after

pub loop-index-preserved : goal.loop-index-preserved
loop-index-preserved c =
    let ps = map proc_of c.args.processes.now in
    record {
      after =
          replay-goes ps c.args.rows c.args.commits.now c.loop-index.index _ c.loop-index.threads c.apply.new.self c.loop-index.invariant.after c.loop-index-test.true
          (may-be ps c.args.rows c.args.commits.now c.loop-index.index _ c.loop-index.threads c.loop-index.invariant.after c.requires.run c.loop-index-test.true)
          c.in_ok-apply.ensures.strands c.apply.ensures.rows;
      trees = commits-kept _ _ _ c.in_ok-apply.ensures.strands ∙ c.loop-index.invariant.trees;
    }

pub invariant_of-result : goal.invariant_of-result
invariant_of-result c = record {
  reached = ∣ (map proc_of c.args.processes.now, c.args.rows, _, c.loop-index.invariant.after) ∣₁;
}

pub returns-clause-stands : goal.returns-clause-stands
returns-clause-stands c =
    let past : length c.args.commits.now ≤ c.loop-index.index = omega (arith, c.loop-index-test.false) in
    subst (λ (cs : List Commit). AreAfter (map proc_of c.args.processes.now) c.args.rows cs c.loop-index.threads) (take_all c.loop-index.index c.args.commits.now past) c.loop-index.invariant.after
