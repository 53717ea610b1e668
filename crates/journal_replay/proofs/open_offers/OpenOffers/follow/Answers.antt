use Rattle.std.proofs.Common.{◌∙◌, subst}
use Rattle.protocol_values.specs.declared.Commit.{Commit}
use Rattle.protocol_values.specs.declared.Message.TheVariants.{Empty}
use Rattle.journal_replay.specs.Runs.{message_by}
use Rattle.journal_replay.specs.Standing.{Takes}
use Rattle.journal_replay.proofs.Covering.{covers-alone, covers-pair}
use Rattle.journal_replay.proofs.Standing.{at-other}
use Rattle.journal_replay.proofs.open_offers.OpenOffers.follow.Goals as goal

pub returns-in_ok-open-in-Pair-2 : goal.returns-in_ok-open-in-Pair-2
returns-in_ok-open-in-Pair-2 c = λ old made known.
    let s = c.args.threads.now in
    let w = c.in-Pair in
    let t = w.sender.0.thread in
    let u = w.receiver.0.thread in
    let grows = subst (λ (x : Commit). Takes x old s.strands.items) w.is (made c.if-woke.false) in
    covers-pair old s.strands.items s.rows t u c.args.self.now c.open.new.self c.open-in-Pair.new.self known
    (λ v apart other. at-other u v w.stamp (w.receiver.1, w.msg) grows.0 s.strands.items grows.2 other ∙ at-other t v w.stamp (w.sender.1, Empty) old grows.0 grows.1 apart)
    c.in_ok-open-in-Pair.ensures c.in_ok-open-in-Pair-2.ensures

pub returns-in_ok-open-in-Alone : goal.returns-in_ok-open-in-Alone
returns-in_ok-open-in-Alone c = λ old made known.
    let s = c.args.threads.now in
    let w = c.in-Alone in
    let t = w.at.0.thread in
    let grows = subst (λ (x : Commit). Takes x old s.strands.items) w.is (made c.if-woke.false) in
    covers-alone old s.strands.items s.rows t c.args.self.now c.open-in-Alone.new.self known
    (λ u ne. at-other t u w.stamp (w.at.1, message_by w.cause) old s.strands.items grows ne) c.in_ok-open-in-Alone.ensures
