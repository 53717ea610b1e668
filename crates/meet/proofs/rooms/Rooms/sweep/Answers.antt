use Rattle.meet.proofs.Putting.{each_on_then}
use Rattle.meet.proofs.rooms.Rooms.sweep.Goals as goal

pub returns-in_err-taken-clause-more : goal.returns-in_err-taken-clause-more
returns-in_err-taken-clause-more g c =
    each_on_then c.args.lanes.now.passes.items c.take_all-taken.new.lanes.passes.items c.put_back-put.new.lanes.passes.items c.take_all-taken.ensures.more c.put_back-put.ensures.more

pub returns-clause-more : goal.returns-clause-more
returns-clause-more g c =
    each_on_then c.args.lanes.now.passes.items c.take_all-taken.new.lanes.passes.items c.put_back-put.new.lanes.passes.items c.take_all-taken.ensures.more c.put_back-put.ensures.more
