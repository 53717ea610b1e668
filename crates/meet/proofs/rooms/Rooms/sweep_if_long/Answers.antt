use Rattle.meet.proofs.Putting.{each_on_then}
use Rattle.meet.proofs.rooms.Rooms.sweep_if_long.Goals as goal

pub returns-clause-more : goal.returns-clause-more
returns-clause-more g c =
    each_on_then c.args.lanes.now.passes.items c.is_long.new.lanes.passes.items c.sweep.new.lanes.passes.items c.is_long.ensures.more c.sweep.ensures.more
