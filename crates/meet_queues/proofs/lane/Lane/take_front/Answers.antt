use Rattle.meet_queues.specs.Lanes.{hand_of}
use Rattle.meet_queues.proofs.LaneSteps.{learns, takes_one}
use Rattle.meet_queues.proofs.lane.Lane.take_front.Goals as goal

pub pop_as-requires-clause-rule : goal.pop_as-requires-clause-rule
pop_as-requires-clause-rule g c = (takes_one _ (hand_of c.args.pass.now), learns _ (hand_of c.args.pass.now))
