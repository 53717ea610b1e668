use Rattle.std.proofs.Common.{sym, subst}
use Rattle.engine.specs.States.{State, NoneReady}
use Rattle.engine.proofs.table.Table.enter.Goals as goal

pub add-requires-clause-none : goal.add-requires-clause-none
add-requires-clause-none c = subst (λ (s : State). NoneReady s c.args.offers.now) (sym c.in_default.ensures.polls.0) c.in_default.ensures.polls.1
