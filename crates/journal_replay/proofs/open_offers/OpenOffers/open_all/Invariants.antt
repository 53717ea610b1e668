use Rattle.journal_replay.proofs.Covering.{OpensBelow}
use Rattle.journal_replay.proofs.open_offers.OpenOffers.open_all.Given as goal

abbrev pub invariant-loop-thread : goal.invariant-loop-thread
invariant-loop-thread l = OpensBelow l.threads.strands.items l.threads.rows l.thread l.self
