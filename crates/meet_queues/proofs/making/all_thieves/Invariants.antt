use Rattle.std.proofs.Common.{◌≡◌, ◌≤◌, All, length, map, take}
use Rattle.crossbeam_deque.specs.Handles.{stealer_deque}
use Rattle.meet_queues.specs.Ends.{IsThief, own_deque_of}
use Rattle.meet_queues.proofs.making.all_thieves.Given as goal

abbrev pub invariant-loop-end : goal.invariant-loop-end
invariant-loop-end l =
    All IsThief l.thieves.items × (map stealer_deque l.thieves.items ≡ map own_deque_of (take l.end-index l.ends)) × (length l.thieves.items ≡ l.end-index) × (l.end-index ≤ length l.ends)
