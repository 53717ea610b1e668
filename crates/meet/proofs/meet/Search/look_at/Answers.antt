use Rattle.meet_scan.specs.Steps.{found_or_left}
use Rattle.meet_scan.proofs.Making.{made_looks}
use Rattle.meet.proofs.Putting.{each_on_then}
use Rattle.meet.proofs.meet.Search.look_at.Goals as goal

pub returns-clause-made : goal.returns-clause-made
returns-clause-made g c =
    made_looks c.args.mine.0 (found_or_left c.attempt_each-found.result) c.args.pass.now.made c.attempt_each-found.new.pass.made c.put_any_back.new.pass.made c.attempt_each-found.ensures.made c.put_any_back.ensures.looks.0

pub returns-clause-more : goal.returns-clause-more
returns-clause-more g c =
    each_on_then c.args.lanes.now.passes.items c.is_empty.new.lanes.passes.items c.put_any_back.new.lanes.passes.items c.is_empty.ensures.more
    (each_on_then c.is_empty.new.lanes.passes.items c.attempt_each-found.new.lanes.passes.items c.put_any_back.new.lanes.passes.items c.attempt_each-found.ensures.more c.put_any_back.ensures.more)
