use Rattle.std.proofs.Common.{◌≡◌, ◌<◌, List, length, rules, subst, sym}
use Rattle.meet.specs.declared.rooms.Room.{Room}
use Rattle.meet.proofs.Choosing.{put_where, waits_within}
use Rattle.meet.proofs.Putting.{each_on_nothing}
use Rattle.meet.proofs.meet.Search.put_offer.Goals as goal

pub put_into-requires-clause-lanes : goal.put_into-requires-clause-lanes
put_into-requires-clause-lanes g c =
    let all : c.deref.result.now ≡ c.args.self.now.meet.now.rooms.items = (search rules) in (
      (search rules),
      subst (λ (rooms : List Room). c.in-Some.at < length rooms) (sym all) (waits_within c.args.self.now.meet.now c.args.direction c.in-Some.at c.requires.lanes.1 c.in-Some.ensures),
    )

pub returns-in_default-clause-put : goal.returns-in_default-clause-put
returns-in_default-clause-put g c at waits = absurd (c.in_default.ensures at waits)

pub returns-clause-put : goal.returns-clause-put
returns-clause-put g c = put_where c.args.self.now.meet.now c.args.direction c.in-Some.at c.args.mine c.args.lanes.now.passes.items c.put_into.new.lanes.passes.items c.put_into.result c.in-Some.ensures c.put_into.ensures.put

pub returns-in_default-clause-more : goal.returns-in_default-clause-more
returns-in_default-clause-more g c = each_on_nothing c.args.lanes.now.passes.items
