use Rattle.meet.proofs.Putting.{each_on_nothing}
use Rattle.meet.proofs.rooms.Rooms.put_any_back.Goals as goal

pub returns-then-is_empty-clause-more : goal.returns-then-is_empty-clause-more
returns-then-is_empty-clause-more g c = each_on_nothing c.args.lanes.now.passes.items
