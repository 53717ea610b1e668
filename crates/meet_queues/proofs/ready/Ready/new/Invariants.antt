use Rattle.std.proofs.Common.{◌≡◌, ◌<◌, ◌≤◌, ℕ, None, Some, [], All, length, map}
use Rattle.crossbeam_deque.specs.Handles.{stealer_deque}
use Rattle.crossbeam_deque.specs.Injected.{injector_view, IsInjectorPassOf}
use Rattle.meet_queues.specs.declared.ends.ReadyEnd.{ReadyEnd}
use Rattle.meet_queues.specs.Hands.{hand}
use Rattle.meet_queues.specs.Positions.{AllAt}
use Rattle.meet_queues.specs.Ends.{IsAlone, IsFresh, IsNewOther, IsThief, all_but, deque_of, own_deque_of}
use Rattle.meet_queues.proofs.ready.Ready.new.Given as goal

abbrev pub invariant-loop-number : goal.invariant-loop-number
invariant-loop-number l =
    IsInjectorPassOf l.ready.inlet l.dealer × (injector_view l.dealer ≡ hand None (Some l.number) 0 [] []) × (length l.ends.items ≡ l.number) × (l.number ≤ l.workers) × AllAt (IsAlone l.ready) l.ends.items

abbrev pub invariant-loop-number-2 : goal.invariant-loop-number-2
invariant-loop-number-2 l =
    AllAt (λ (n : ℕ) (e : ReadyEnd). IsFresh l.ready n e × All IsNewOther e.others.items × (n < l.number → map deque_of e.others.items ≡ all_but n (map stealer_deque l.thieves.items))) l.ends.items
    × All IsThief l.thieves.items × (map own_deque_of l.ends.items ≡ map stealer_deque l.thieves.items) × (length l.ends.items ≡ l.workers) × (length l.thieves.items ≡ l.workers) × (l.number ≤ l.workers)
