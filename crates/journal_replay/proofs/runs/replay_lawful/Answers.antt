use Rattle.std.proofs.Common.{inr, ◌∙◌}
use Rattle.std.proofs.lemmas.Bool.{both_ways}
use Rattle.journal_replay.proofs.Lines.{commits-kept}
use Rattle.journal_replay.proofs.Replaying.{after-order, replay-stops, replay-goes}
use Rattle.journal_replay.proofs.runs.replay_lawful.Goals as goal

pub returns-then-not-may_follow-clause-far : goal.returns-then-not-may_follow-clause-far
returns-then-not-may_follow-clause-far c =
    inr (replay-stops _ _ _ _ _ c.loop-index.threads c.loop-index.invariant.after c.loop-index-test.true
    (λ m. both_ways _ c.if-not-may_follow.true (c.may_follow.ensures.1 m)))

pub loop-index-preserved : goal.loop-index-preserved
loop-index-preserved c = record {
  after =
      replay-goes _ _ _ _ _ c.loop-index.threads c.apply.new.self c.loop-index.invariant.after c.loop-index-test.true
      (c.may_follow.ensures.0 c.if-not-may_follow.false) c.in_ok-apply.ensures.strands c.apply.ensures.rows;
  trees = commits-kept _ _ _ c.in_ok-apply.ensures.strands ∙ c.loop-index.invariant.trees;
}

pub apply-requires-clause-order : goal.apply-requires-clause-order
apply-requires-clause-order c = after-order _ _ _ c.loop-index.threads c.loop-index.invariant.after
