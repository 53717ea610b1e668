use Rattle.std.proofs.Common.{◌≡◌, ◌≤◌, None, Some, []}
use Rattle.crossbeam_deque.specs.Handles.{worker_flavor, worker_view}
use Rattle.meet_queues.specs.Hands.{hand}
use Rattle.meet_queues.proofs.making.own_deque.Given as goal

abbrev pub invariant-loop : goal.invariant-loop
invariant-loop l = (worker_flavor l.own ≡ 0) × (worker_view l.own ≡ hand None (Some l.counter) 0 [] []) × (l.counter ≤ l.number)
