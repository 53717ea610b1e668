use Rattle.meet.proofs.Putting.{each_on_then, put_at_later}
use Rattle.meet.proofs.rooms.Rooms.put_into.Goals as goal

pub returns-clause-more : goal.returns-clause-more
returns-clause-more g c =
    each_on_then c.args.lanes.now.passes.items c.sweep_if_long.new.lanes.passes.items c.put_one.new.lanes.passes.items c.sweep_if_long.ensures.more c.put_one.ensures.more

pub returns-clause-put : goal.returns-clause-put
returns-clause-put g c =
    put_at_later c.args.lanes.now.passes.items c.sweep_if_long.new.lanes.passes.items c.put_one.new.lanes.passes.items c.args.at c.args.entry c.put_one.result c.sweep_if_long.ensures.more c.put_one.ensures.put
