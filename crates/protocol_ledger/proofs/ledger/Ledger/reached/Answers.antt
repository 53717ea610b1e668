use Rattle.std.proofs.Common.{arith}
use Rattle.std.proofs.lemmas.List.Elements.{Contains-get_or}
use Rattle.std.proofs.lemmas.Option.{slice_get-get_or}
use Rattle.protocol_ledger.proofs.Reaching.{noted_all, noted_more, noted_none}
use Rattle.protocol_ledger.proofs.ledger.Ledger.reached.Goals as goal

pub loop-commit-init : goal.loop-commit-init
loop-commit-init c = noted_none c.args.self.now c.args.commits.now c.in_ok-reached.reached.items c.in_ok-reached.ensures.starts

pub loop-commit-preserved : goal.loop-commit-preserved
loop-commit-preserved c =
    let at = c.loop-commit.commit-index in
    noted_more c.args.self.now c.args.commits.now at _ c.loop-commit.reached.items c.note_commit.new.reached.items c.starts.ensures.lawful ((c.requires _).0 (Contains-get_or c.args.commits.now at _ c.loop-commit-test.true))
    (slice_get-get_or c.args.commits.now at _ c.loop-commit-test.true) c.note_commit.ensures c.loop-commit.invariant

pub returns : goal.returns
returns c =
    noted_all c.args.self.now c.args.commits.now c.loop-commit.commit-index c.loop-commit.reached.items c.starts.ensures.lawful (let over = c.loop-commit-test.false in omega (arith, over)) (λ d. (c.requires d).1) c.loop-commit.invariant
