use Rattle.meet_queues.proofs.Onceness.{handed_over}
use Rattle.meet_queues.proofs.laws.each_entry_is_handed_over_once.Goals as goal

pub returns-clause-lane : goal.returns-clause-lane
returns-clause-lane c = handed_over

pub returns-clause-deque : goal.returns-clause-deque
returns-clause-deque c = handed_over

pub returns-clause-injector : goal.returns-clause-injector
returns-clause-injector c = handed_over
