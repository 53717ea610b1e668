use Rattle.meet.specs.Rooms.{EachPutsOn, Serves}
use Rattle.meet.proofs.rooms.take_all.Given as goal

abbrev pub invariant-loop : goal.invariant-loop
invariant-loop g l =
    (goal.iterator-loop g).can_next l.iterator' × (goal.iterator-loop g).is_finite l.iterator' × Serves l.rooms l.lanes.passes.items × EachPutsOn l.fn.lanes.passes.items l.lanes.passes.items
