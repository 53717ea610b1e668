use Rattle.meet_queues.specs.Lanes.{hand_of}
use Rattle.meet_queues.proofs.LaneSteps.{learns}
use Rattle.meet_queues.proofs.lane.Lane.len.Goals as goal

pub len_as-requires-clause-rule : goal.len_as-requires-clause-rule
len_as-requires-clause-rule g c = learns _ (hand_of c.args.pass.now)
