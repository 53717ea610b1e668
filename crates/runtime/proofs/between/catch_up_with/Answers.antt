use Rattle.runtime.proofs.CatchingUp.{stopped_at}
use Rattle.runtime.proofs.between.catch_up_with.Goals as goal

pub catch_up_at-requires-in_default-Some : goal.catch_up_at-requires-in_default-Some
catch_up_at-requires-in_default-Some c =
    let first = c.gives.result.0 in
    stopped_at c.args.had.now first.at first.message c.args.machines.now.items c.catch_up_at.new.machines.items (c.in_ok-catch_up_at-in_default-Some.ensures c.if-not-branch.false) c.requires
