use Rattle.crossbeam_deque.specs.Handles.{stealer_deque}
use Rattle.std.proofs.Common.{ap, map}
use Rattle.meet_queues.specs.Ends.{deque_of}
use Rattle.meet_queues.proofs.Beginning.{rest_of}
use Rattle.meet_queues.proofs.making.other_deques.Goals as goal

pub returns-clause-deques : goal.returns-clause-deques
returns-clause-deques c =
    rest_of stealer_deque c.args.number c.args.thieves.now _ _ _ (ap (λ l. map deque_of l) c.in_ok-others.ensures.items) c.in_ok-add_others.ensures.deques c.in_ok-add_others-2.ensures.deques
