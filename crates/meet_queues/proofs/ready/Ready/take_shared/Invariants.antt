use Rattle.std.proofs.Common.{◌≡◌}
use Rattle.crossbeam_deque.specs.Injected.{injector_view, IsInjectorPassOf}
use Rattle.meet_queues.proofs.ready.Ready.take_shared.Given as goal

abbrev pub invariant-loop : goal.invariant-loop
invariant-loop g l =
    (goal.iterator-loop g).can_next l.iterator' × (goal.iterator-loop g).is_finite l.iterator'
    × IsInjectorPassOf l.self.inlet l.inlet × (injector_view l.inlet ≡ injector_view l.initial.inlet)
