use Rattle.journal_replay.proofs.Covering.{OpensTo}
use Rattle.journal_replay.proofs.open_offers.OpenOffers.open.Given as goal

abbrev pub invariant-loop-number : goal.invariant-loop-number
invariant-loop-number l = OpensTo l.row l.offer-items l.number l.fn.self l.self
