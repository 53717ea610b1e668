use Rattle.std.proofs.Common.{arith}
use Rattle.std.proofs.lemmas.Option.{slice_get-get_or, slice_get_within}
use Rattle.runtime.proofs.CatchingUp.{caught_more, caught_none, stopped_with, trees_with}
use Rattle.runtime.proofs.between.catch_up_all.Goals as goal

pub loop-commit-init : goal.loop-commit-init
loop-commit-init c = record { stopped = c.requires; trees = λ trees run. run; caught = caught_none c.args.had.now c.args.commits.now c.args.machines.now.items }

pub loop-commit-preserved : goal.loop-commit-preserved
loop-commit-preserved c =
    let inv = c.loop-commit.invariant in
    record {
      stopped = stopped_with c.args.had.now _ c.loop-commit.machines.items c.catch_up_with.new.machines.items (c.in_ok-catch_up_with.ensures c.if-not-branch.false) inv.stopped;
      trees = λ trees run. trees_with c.args.had.now _ c.loop-commit.machines.items c.catch_up_with.new.machines.items (c.in_ok-catch_up_with.ensures c.if-not-branch.false) trees (inv.trees trees run);
      caught = caught_more c.args.had.now c.args.commits.now c.loop-commit.commit-index _ c.args.machines.now.items c.loop-commit.machines.items c.catch_up_with.new.machines.items
          (slice_get-get_or c.args.commits.now c.loop-commit.commit-index _ c.loop-commit-test.true) (c.in_ok-catch_up_with.ensures c.if-not-branch.false) inv.caught;
    }

pub returns-clause-caught : goal.returns-clause-caught
returns-clause-caught c done = λ ps first l are counts ranges all left.
    let b = c.loop-commit.invariant.caught ps first l are counts ranges all left in
    (b.0, λ k x is. b.1 k x (let low = slice_get_within c.args.commits.now k x is in let over = c.loop-commit-test.false in omega (arith, low, over)) is)
