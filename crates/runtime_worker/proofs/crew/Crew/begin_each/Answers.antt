use Rattle.std.proofs.Common.{refl}
use Rattle.runtime_worker.proofs.Beginnings.{begin_last}
use Rattle.runtime_worker.proofs.crew.Crew.begin_each.Goals as goal

-- the thread that came off the list
pub begin-entered-requires-clause-here : goal.begin-entered-requires-clause-here
begin-entered-requires-clause-here g c =
    let worker = c.loop.invariant.2 in
    let last = begin_last c.args.self.now.cells.now.threads c.loop.worker.pass.seen c.loop.threads.items c.pop.new.self.items c.in-Some-pop.thread c.in-Some-pop.ensures.items c.loop.invariant.3 in
    (worker.0, (last.2.0, worker.3.rows.0), worker.3)

pub begin-entered-requires-clause-first : goal.begin-entered-requires-clause-first
begin-entered-requires-clause-first g c =
    let last = begin_last c.args.self.now.cells.now.threads c.loop.worker.pass.seen c.loop.threads.items c.pop.new.self.items c.in-Some-pop.thread c.in-Some-pop.ensures.items c.loop.invariant.3 in
    (refl, last.2.1)

pub begin-entered-requires-clause-untouched : goal.begin-entered-requires-clause-untouched
begin-entered-requires-clause-untouched g c =
    let last = begin_last c.args.self.now.cells.now.threads c.loop.worker.pass.seen c.loop.threads.items c.pop.new.self.items c.in-Some-pop.thread c.in-Some-pop.ensures.items c.loop.invariant.3 in
    last.2.2

pub begin-entered-requires-clause-threads : goal.begin-entered-requires-clause-threads
begin-entered-requires-clause-threads g c =
    let last = begin_last c.args.self.now.cells.now.threads c.loop.worker.pass.seen c.loop.threads.items c.pop.new.self.items c.in-Some-pop.thread c.in-Some-pop.ensures.items c.loop.invariant.3 in
    (last.0, last.1)
