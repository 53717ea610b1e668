use Rattle.std.proofs.Common.{ap}
use Rattle.crossbeam_deque.specs.Handles.{worker_view}
use Rattle.protocol_values.specs.declared.Row.{Row}
use Rattle.meet_queues.specs.declared.entries.QueueView.{QueueView}
use Rattle.meet_queues.proofs.Keeping.{begins, deals, settles}
use Rattle.meet_queues.proofs.making.own_deque.Goals as goal

pub fifo_as-requires : goal.fifo_as-requires
fifo_as-requires c = begins

pub another-requires : goal.another-requires
another-requires c = deals _ (worker_view c.loop.own) _ (ap (λ (v : QueueView Row). v.next) c.loop.invariant.1)

pub another-requires-2 : goal.another-requires-2
another-requires-2 c = settles _ (worker_view c.loop.own) _ (ap (λ (v : QueueView Row). v.next) c.loop.invariant.1) (ap (λ (v : QueueView Row). v.put) c.loop.invariant.1) (ap (λ (v : QueueView Row). v.below) c.loop.invariant.1)
