use Rattle.meet_queues.proofs.ReadySteps.{get_one, finds_empty}
use Rattle.meet_queues.proofs.ready.Ready.take_shared.Goals as goal

pub steal_as-requires-clause-rule : goal.steal_as-requires-clause-rule
steal_as-requires-clause-rule g c = (get_one _ _, finds_empty _ _)
