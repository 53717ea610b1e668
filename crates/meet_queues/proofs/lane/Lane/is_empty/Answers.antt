use Rattle.meet_queues.specs.Lanes.{hand_of}
use Rattle.meet_queues.proofs.LaneSteps.{learns}
use Rattle.meet_queues.proofs.lane.Lane.is_empty.Goals as goal

pub is_empty_as-requires-clause-rule : goal.is_empty_as-requires-clause-rule
is_empty_as-requires-clause-rule c = learns _ (hand_of c.args.pass.now)
