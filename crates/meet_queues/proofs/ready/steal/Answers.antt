use Rattle.crossbeam_deque.specs.Handles.{view}
use Rattle.meet_queues.proofs.ReadySteps.{get_one}
use Rattle.meet_queues.proofs.ready.steal.Goals as goal

pub steal_as-requires-clause-takes : goal.steal_as-requires-clause-takes
steal_as-requires-clause-takes c = get_one _ (view c.args.other.now.hand)
