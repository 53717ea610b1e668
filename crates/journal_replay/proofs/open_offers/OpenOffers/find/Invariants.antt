use Rattle.std.proofs.Common.{length}
use Rattle.journal_replay.specs.Searching.{Covers}
use Rattle.journal_replay.proofs.open_offers.OpenOffers.find.Given as goal

abbrev pub invariant-loop-at : goal.invariant-loop-at
invariant-loop-at l = Covers l.threads.strands.items l.threads.rows l.self

abbrev pub decreases-loop-at : goal.decreases-loop-at
decreases-loop-at l = length l.self.untried
