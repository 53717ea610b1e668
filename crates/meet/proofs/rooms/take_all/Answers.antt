use Rattle.meet.proofs.Putting.{each_on_nothing, each_on_then}
use Rattle.meet.proofs.rooms.take_all.Goals as goal

pub loop-init : goal.loop-init
loop-init g c = (tt, tt, c.requires.0, each_on_nothing c.args.lanes.now.passes.items)

pub returns-in_default-clause-more : goal.returns-in_default-clause-more
returns-in_default-clause-more g c =
    each_on_then c.args.lanes.now.passes.items c.loop.lanes.passes.items c.take_from.new.lanes.passes.items c.loop.invariant.3 c.take_from.ensures.more

pub loop-preserved : goal.loop-preserved
loop-preserved g c = (
  tt,
  tt,
  c.take_from.ensures.lanes,
  each_on_then c.args.lanes.now.passes.items c.loop.lanes.passes.items c.take_from.new.lanes.passes.items c.loop.invariant.3 c.take_from.ensures.more,
)

pub returns-in_err-add-clause-more : goal.returns-in_err-add-clause-more
returns-in_err-add-clause-more g c =
    each_on_then c.args.lanes.now.passes.items c.loop.lanes.passes.items c.take_from.new.lanes.passes.items c.loop.invariant.3 c.take_from.ensures.more
