use Rattle.std.proofs.Common.{rules}
use Rattle.journal_replay.proofs.Covering.{below-all, below-more, below-none}
use Rattle.journal_replay.proofs.open_offers.OpenOffers.open_all.Goals as goal

pub loop-thread-init : goal.loop-thread-init
loop-thread-init c = below-none c.args.threads.now.strands.items c.args.threads.now.rows c.args.self.now c.requires.channels

pub open-requires : goal.open-requires
open-requires c = c.loop-thread.invariant.channels

pub loop-thread-preserved : goal.loop-thread-preserved
loop-thread-preserved c =
    let s = c.args.threads.now in
    below-more s.strands.items s.rows c.loop-thread.thread c.loop-thread.self c.open.new.self c.loop-thread.invariant c.in_ok-open.ensures

pub returns : goal.returns
returns c =
    let s = c.args.threads.now in
    below-all s.strands.items s.rows c.loop-thread.thread c.loop-thread.self (search rules) c.loop-thread.invariant
