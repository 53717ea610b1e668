use Rattle.journal_replay.proofs.Replaying.{reached-room, tells-enabled}
use Rattle.journal_replay.proofs.state.State.enabled.Goals as goal

pub of-requires : goal.of-requires
of-requires c = (reached-room c.args.self.now.threads c.args.self.now.reached).1

pub find-requires-clause-room : goal.find-requires-clause-room
find-requires-clause-room c = (reached-room c.args.self.now.threads c.args.self.now.reached).0

pub returns : goal.returns
returns c = tells-enabled c.args.self.now c.find.result c.find.ensures.found
