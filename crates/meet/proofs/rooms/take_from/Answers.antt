use Rattle.std.proofs.Common.{rules}
use Rattle.meet.proofs.Serving.{serves_here, serves_now, serves_within}
use Rattle.meet.proofs.Putting.{each_on_set, taken_on}
use Rattle.meet.proofs.rooms.take_from.Goals as goal

pub index_mut-requires : goal.index_mut-requires
index_mut-requires g c = let less = serves_within c.args.rooms.now c.args.lanes.now.passes.items c.args.at c.requires.0 c.requires.1 in search rules

pub take_front-requires : goal.take_front-requires
take_front-requires g c =
    record { here = serves_here c.args.rooms.now c.args.lanes.now.passes.items c.args.at c.index-rooms-at.result c.index_mut.result.now c.requires.0 c.requires.1 c.index-rooms-at.is c.index_mut.ensures.value }

pub returns-clause-lanes : goal.returns-clause-lanes
returns-clause-lanes g c = serves_now c.args.rooms.now c.args.lanes.now.passes.items c.args.at c.index-rooms-at.result c.take_front.new.pass c.requires.0 c.requires.1 c.index-rooms-at.is c.take_front.ensures.here

pub returns-clause-more : goal.returns-clause-more
returns-clause-more g c =
    let old = c.index_mut.result.now in
    each_on_set c.args.lanes.now.passes.items c.args.at old c.take_front.new.pass c.index_mut.ensures.value (taken_on old c.take_front.new.pass c.take_front.result c.take_front.ensures.taken)
