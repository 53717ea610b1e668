use Rattle.std.proofs.Common.{◌≡◌, ◌≤◌, ◌++◌, All, length, map, take}
use Rattle.crossbeam_deque.specs.Handles.{stealer_deque}
use Rattle.meet_queues.specs.Ends.{IsNewOther, deque_of}
use Rattle.meet_queues.proofs.making.add_others.Given as goal

abbrev pub invariant-loop-thief : goal.invariant-loop-thief
invariant-loop-thief l =
    All IsNewOther l.others.items × (map deque_of l.others.items ≡ map deque_of l.initial.others.items ++ map stealer_deque (take l.thief-index l.thieves)) × (l.thief-index ≤ length l.thieves)
