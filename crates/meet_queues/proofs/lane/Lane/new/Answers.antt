use Rattle.std.proofs.Common.{ℕ, ◌≤◌, Some, None, [], All, ap, arith, refl, rules, sym, subst, ◌∙◌}
use Rattle.std.proofs.lemmas.List.Elements.{All-push}
use Rattle.meet_queues.specs.declared.entries.QueueView.{QueueView}
use Rattle.meet_queues.specs.Hands.{dealt, hand}
use Rattle.meet_queues.specs.Positions.{AllAt}
use Rattle.meet_queues.proofs.Keeping.{begins}
use Rattle.meet_queues.proofs.Positioning.{all_at_pushed}
use Rattle.meet_queues.specs.declared.lane.Lane.{Lane}
use Rattle.meet_queues.specs.declared.lane.LanePass.{LanePass}
use Rattle.meet_queues.specs.Lanes.{IsLanePassOf, IsNewPass, Offered}
use Rattle.meet_queues.proofs.LaneSteps.{deals_one}
use Rattle.meet_queues.proofs.lane.Lane.new.Goals as goal

pub with_rule-requires : goal.with_rule-requires
with_rule-requires c = begins

pub another-hand-requires-clause-rule : goal.another-hand-requires-clause-rule
another-hand-requires-clause-rule c = deals_one _ c.loop-number.dealer.me.view.client _ (ap (λ (v : QueueView Offered). v.next) c.loop-number.invariant.1)

pub loop-number-preserved : goal.loop-number-preserved
loop-number-preserved c =
    let lane : Lane = record { queue = c.in_ok-queue.queue } in
    let pass : LanePass = record { number = c.loop-number.number; count = 0; hand = c.another-hand.result } in
    let same = c.in_ok-push.ensures.items in (
      (search rules),
      (search rules),
      (search rules),
      (search rules),
      subst (All (IsLanePassOf lane)) (sym same) (All-push (IsLanePassOf lane) c.loop-number.all.items pass c.loop-number.invariant.4 (
        c.another-hand.ensures.queue.2,
        (
          ap (λ (v : QueueView Offered). v.number) c.another-hand.ensures.rule.1 ∙ ap (λ (v : QueueView Offered). v.next) c.loop-number.invariant.1,
          subst (λ (b : ℕ). b ≤ 0) (sym (ap (λ (v : QueueView Offered). v.below) c.another-hand.ensures.rule.1)) (omega arith),
        ),
      )),
      subst (AllAt IsNewPass) (sym same) (all_at_pushed IsNewPass c.loop-number.all.items pass c.loop-number.invariant.5 (
        sym c.loop-number.invariant.2,
        refl,
        c.another-hand.ensures.rule.1 ∙ ap dealt c.loop-number.invariant.1 ∙ ap (λ (n : ℕ). hand (Some n) None 0 [] []) (sym c.loop-number.invariant.2),
      )),
    )
