use Rattle.std.proofs.Common.{ap}
use Rattle.crossbeam_deque.specs.Injected.{injector_view}
use Rattle.protocol_values.specs.declared.Row.{Row}
use Rattle.meet_queues.specs.declared.entries.QueueView.{QueueView}
use Rattle.meet_queues.proofs.Keeping.{deals}
use Rattle.meet_queues.proofs.making.lone_end.Goals as goal

pub another-requires-clause-rule : goal.another-requires-clause-rule
another-requires-clause-rule c = deals _ (injector_view c.args.dealer.now) _ (ap (λ (v : QueueView Row). v.next) c.requires.dealer.1)
