use Rattle.meet_scan.proofs.Growing.{grows_nothing, grows_then}
use Rattle.test_memory.proofs.tables.search_often.Goals as goal

pub loop-init : goal.loop-init
loop-init g c = (c.requires.here.0, grows_nothing c.args.pass.now.seen, c.requires.lanes)

pub loop-preserved : goal.loop-preserved
loop-preserved g c = (c.search.ensures.here, grows_then c.args.pass.now.seen c.loop.pass.seen c.search.new.pass.seen c.loop.invariant.1 c.search.ensures.grows, c.search.ensures.lanes)

pub returns-in_err-search-clause-grows : goal.returns-in_err-search-clause-grows
returns-in_err-search-clause-grows g c = grows_then c.args.pass.now.seen c.loop.pass.seen c.search.new.pass.seen c.loop.invariant.1 c.search.ensures.grows
