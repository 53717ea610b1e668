use Rattle.std.proofs.Common.{rules}
use Rattle.meet.proofs.Serving.{serves_here, serves_now, serves_within}
use Rattle.meet.proofs.Putting.{each_on_set, same_puts_on}
use Rattle.meet.proofs.rooms.is_still.Goals as goal

pub index_mut-requires : goal.index_mut-requires
index_mut-requires c = let less = serves_within c.args.rooms.now c.args.lanes.now.passes.items c.args.at c.requires.0 c.requires.1 in search rules

pub is_still-requires : goal.is_still-requires
is_still-requires c =
    serves_here c.args.rooms.now c.args.lanes.now.passes.items c.args.at c.index-rooms-at.result c.index_mut.result.now c.requires.0 c.requires.1 c.index-rooms-at.is c.index_mut.ensures.value

pub returns-clause-lanes : goal.returns-clause-lanes
returns-clause-lanes c = serves_now c.args.rooms.now c.args.lanes.now.passes.items c.args.at c.index-rooms-at.result c.is_still.new.lane c.requires.0 c.requires.1 c.index-rooms-at.is c.is_still.ensures.0

pub returns-clause-more : goal.returns-clause-more
returns-clause-more c =
    let old = c.index_mut.result.now in
    each_on_set c.args.lanes.now.passes.items c.args.at old c.is_still.new.lane c.index_mut.ensures.value (same_puts_on old c.is_still.new.lane c.is_still.ensures.1)
