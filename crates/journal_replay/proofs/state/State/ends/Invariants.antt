use Rattle.journal_replay.specs.Replays.{TellsEnd}
use Rattle.journal_replay.proofs.Telling.{HoldsOf}
use Rattle.journal_replay.proofs.state.State.ends.Given as goal

abbrev pub invariant-loop-thread : goal.invariant-loop-thread
invariant-loop-thread l = HoldsOf (TellsEnd l.self) l.thread l.ends.items
