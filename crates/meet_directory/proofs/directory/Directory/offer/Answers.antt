use Rattle.std.proofs.Common.{arith, ◌∙◌, ap}
use Rattle.meet_directory.proofs.Keeping.{offered_now}
use Rattle.meet_directory.proofs.Sitting.{within, sees, sets_it}
use Rattle.meet_directory.proofs.directory.Directory.offer.Goals as goal

pub load-found-requires : goal.load-found-requires
load-found-requires c = (c.requires.sits.0, within c.args.self.now _ (omega (arith, c.requires.side)), sees c.args.self.now c.args.pass.now _ (omega (arith, c.requires.side)))

pub fetch_or-requires : goal.fetch_or-requires
fetch_or-requires c = (c.load-found.ensures.0 ∙ c.requires.sits.0, within c.args.self.now _ (omega (arith, c.requires.side)), sets_it c.args.self.now c.load-found.new.seat _ _ (omega arith) (omega (arith, c.requires.side)))

pub returns-then-not-has_bit-clause-offered : goal.returns-then-not-has_bit-clause-offered
returns-then-not-has_bit-clause-offered c =
    offered_now c.load-found.new.seat.me.0.marks c.fetch_or.new.seat.me.0.marks c.args.thread c.args.side c.bit_of.result (ap (λ m. m.0.marks) c.fetch_or.ensures.2) c.bit_of.ensures
