use Rattle.std.proofs.Common.{rules}
use Rattle.meet.proofs.Joining.{joins_next}
use Rattle.meet.proofs.Putting.{joins_on, on_then, put_on}
use Rattle.meet.proofs.rooms.Room.put_all.Goals as goal

pub loop-entry-preserved : goal.loop-entry-preserved
loop-entry-preserved g c = (
  c.put.ensures.here,
  joins_next c.args.lane.now c.loop-entry.lane c.put.new.lane c.args.entries.now c.loop-entry.entry-index _ c.loop-entry.invariant.1 c.in_ok-put.ensures.put (search rules) (search rules),
  on_then c.args.lane.now c.loop-entry.lane c.put.new.lane c.loop-entry.invariant.2 (joins_on c.loop-entry.lane c.put.new.lane _ c.in_ok-put.ensures.put),
)

pub returns-in_err-put-clause-more : goal.returns-in_err-put-clause-more
returns-in_err-put-clause-more g c =
    on_then c.args.lane.now c.loop-entry.lane c.put.new.lane c.loop-entry.invariant.2 (put_on c.loop-entry.lane c.put.new.lane _ c.put.result c.put.ensures.put)
