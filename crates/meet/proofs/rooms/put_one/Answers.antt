use Rattle.std.proofs.Common.{rules}
use Rattle.meet.proofs.Serving.{serves_here, serves_now, serves_within}
use Rattle.meet.proofs.Putting.{each_on_set, put_meanwhile, put_on}
use Rattle.meet.proofs.rooms.put_one.Goals as goal

pub index_mut-requires : goal.index_mut-requires
index_mut-requires g c = let less = serves_within c.args.rooms.now c.args.lanes.now.passes.items c.args.at c.requires.0 c.requires.1 in search rules

pub put-requires : goal.put-requires
put-requires g c = serves_here c.args.rooms.now c.args.lanes.now.passes.items c.args.at c.index-rooms-at.result c.index_mut.result.now c.requires.0 c.requires.1 c.index-rooms-at.is c.index_mut.ensures.value

pub returns-clause-lanes : goal.returns-clause-lanes
returns-clause-lanes g c = serves_now c.args.rooms.now c.args.lanes.now.passes.items c.args.at c.index-rooms-at.result c.put.new.lane c.requires.0 c.requires.1 c.index-rooms-at.is c.put.ensures.here

pub returns-clause-more : goal.returns-clause-more
returns-clause-more g c =
    let old = c.index_mut.result.now in
    each_on_set c.args.lanes.now.passes.items c.args.at old c.put.new.lane c.index_mut.ensures.value (put_on old c.put.new.lane c.args.entry c.put.result c.put.ensures.put)

pub returns-clause-put : goal.returns-clause-put
returns-clause-put g c =
    let passes = c.args.lanes.now.passes.items in
    let within = serves_within c.args.rooms.now passes c.args.at c.requires.0 c.requires.1 in
    put_meanwhile passes c.args.at c.index_mut.result.now c.put.new.lane c.args.entry c.put.result within c.index_mut.ensures.value c.put.ensures.put
