use Rattle.meet_queues.specs.Lanes.{entry, hand_of}
use Rattle.meet_queues.proofs.LaneSteps.{puts_one}
use Rattle.meet_queues.proofs.lane.Lane.put.Goals as goal

pub push_as-requires-clause-rule : goal.push_as-requires-clause-rule
push_as-requires-clause-rule g c = λ n. puts_one n _ (hand_of c.args.pass.now) (entry (c.args.row, c.args.n) c.args.pass.now) c.requires.here.1.0 c.requires.here.1.1
