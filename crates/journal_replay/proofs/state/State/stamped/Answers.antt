use Rattle.journal_replay.proofs.Replaying.{reached-room}
use Rattle.journal_replay.proofs.Stamping.{tells-stamped}
use Rattle.journal_replay.proofs.state.State.stamped.Goals as goal

pub stamped-requires : goal.stamped-requires
stamped-requires c = (reached-room c.args.self.now.threads c.args.self.now.reached).0

pub returns : goal.returns
returns c = tells-stamped c.args.self.now c.args.commit.now c.stamped.result c.stamped.ensures
