use Rattle.std.proofs.Common.{◌≡◌, arith, ◌∙◌}
use Rattle.journal_replay.specs.Replays.{TellsEnd, thread_count}
use Rattle.journal_replay.proofs.Telling.{holds-more}
use Rattle.journal_replay.proofs.state.State.ends.Goals as goal

pub loop-thread-preserved : goal.loop-thread-preserved
loop-thread-preserved c =
    holds-more (TellsEnd c.args.self.now) c.loop-thread.thread c.loop-thread.ends.items c.push.new.self.items c.end.result
    c.loop-thread.invariant c.end.ensures c.in_ok-push.ensures.items

pub returns : goal.returns
returns c =
    let last : c.loop-thread.thread ≡ thread_count c.args.self.now = omega (arith, c.loop-thread.auto.thread-end, c.loop-thread-test.false, c.threads-thread-end.ensures) in
    record { count = c.loop-thread.invariant.0 ∙ last; each = c.loop-thread.invariant.1 }
