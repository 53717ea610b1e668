use Rattle.std.proofs.Common.{◌≡◌, All, map, length}
use Rattle.meet_queues.specs.Ends.{IsOther, got_of}
use Rattle.meet_queues.proofs.ready.steal_any.Given as goal

abbrev pub invariant-loop-at : goal.invariant-loop-at
invariant-loop-at l =
    All IsOther l.others.items × (map got_of l.others.items ≡ map got_of l.initial.others.items) × (length l.others.items ≡ length l.initial.others.items)
