use Rattle.meet_queues.proofs.Keeping.{admitted}
use Rattle.meet_queues.proofs.making.add_others.Goals as goal

pub pass-hand-requires : goal.pass-hand-requires
pass-hand-requires c = admitted
