use Rattle.std.proofs.Common.{rules, List, refl, subst, sym}
use Rattle.meet_queues.specs.Lanes.{IsLanePassOf, Offered}
use Rattle.meet_queues.specs.declared.lane.LanePass.{LanePass}
use Rattle.meet.specs.declared.rooms.Room.{Room}
use Rattle.meet.specs.Rooms.{AllJoin}
use Rattle.meet.proofs.Serving.{one_pass, serves_here, serves_now, serves_within}
use Rattle.meet.proofs.Putting.{each_on_set, ok_then}
use Rattle.meet.proofs.rooms.Rooms.put_back.Goals as goal

pub index_mut-requires : goal.index_mut-requires
index_mut-requires g c = let less = serves_within c.args.self.now.rooms.now c.args.lanes.now.passes.items c.args.at c.requires.lanes.0 c.requires.lanes.1 in search rules

pub put_all-put-requires : goal.put_all-put-requires
put_all-put-requires g c =
    subst (λ (r : Room). IsLanePassOf r.lane c.index_mut.result.now) c.index-self-at.is
    (serves_here c.args.self.now.rooms.now c.args.lanes.now.passes.items c.args.at c.index-self-at.result c.index_mut.result.now c.requires.lanes.0 c.requires.lanes.1 c.index-self-at.is c.index_mut.ensures.value)

pub returns-clause-lanes : goal.returns-clause-lanes
returns-clause-lanes g c =
    serves_now c.args.self.now.rooms.now c.args.lanes.now.passes.items c.args.at c.index-self-at.result c.put_all-put.new.lane c.requires.lanes.0 c.requires.lanes.1 c.index-self-at.is
    (subst (λ (r : Room). IsLanePassOf r.lane c.put_all-put.new.lane) (sym c.index-self-at.is) c.put_all-put.ensures.here)

pub returns-clause-more : goal.returns-clause-more
returns-clause-more g c = each_on_set c.args.lanes.now.passes.items c.args.at c.index_mut.result.now c.put_all-put.new.lane c.index_mut.ensures.value c.put_all-put.ensures.more

pub returns-clause-put : goal.returns-clause-put
returns-clause-put g c =
    let old = c.index_mut.result.now in
    let lane = c.put_all-put.new.lane in
    let rest = c.tidy.new.self in
    ok_then c.put_all-put.result
    (λ joined p is. (
      lane,
      rest,
      refl,
      c.tidy.ensures.tidies,
      subst (λ (x : LanePass). AllJoin x lane rest) (one_pass c.args.lanes.now.passes.items c.args.at p old is c.index_mut.ensures.value)
          (subst (λ (entries : List Offered). AllJoin old lane entries) c.entries.ensures joined),
      c.clear.ensures,
    ))
    c.put_all-put.ensures.put
