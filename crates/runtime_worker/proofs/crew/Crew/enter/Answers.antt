use Rattle.std.proofs.Common.{List, ℕ, refl, subst, sym}
use Rattle.thread.specs.After.{Chosen}
use Rattle.runtime_worker.specs.declared.resident.Rest.{Rest}
use Rattle.runtime_worker.specs.Machines.{AreAtRest}
use Rattle.runtime_worker.proofs.Beginnings.{begin_yet}
use Rattle.runtime_worker.proofs.Resting.{rest_now, rests_more, rests_same, tells_over, tells_stopped}
use Rattle.runtime_worker.proofs.Startings.{finished_leaves, finished_rows}
use Rattle.runtime_worker.proofs.crew.Crew.enter.Goals as goal

-- what was done with the own row leaves the first rows of the others
pub returns-then-has-clause-threads : goal.returns-then-has-clause-threads
returns-then-has-clause-threads g c =
    let started = c.in_ok-start_spawned.ensures in
    begin_yet c.args.self.now.cells.now.threads c.args.place.thread c.start_spawned.new.pass.seen c.offer.new.pass.seen c.start_spawned.new.threads.items c.offer.ensures.others started.threads.0 started.threads.1

-- the machine is at rest, behind the last row
pub returns-in_ok-push-in-Offering-clause-rests : goal.returns-in_ok-push-in-Offering-clause-rests
returns-in_ok-push-in-Offering-clause-rests g c =
    let first = c.args.self.now.cells.now.first in
    let told : List (ℕ × List Chosen) = c.start_spawned.new.pass.results in
    let m = c.args.suspended in
    let r : Rest = record { thread = c.args.place.thread; suspended = m } in
    let stopped = tells_stopped c.args.turn m.machine.value.phase c.requires.turn in
    subst (AreAtRest first told) (sym c.in_ok-push-in-Offering.ensures.items)
    (rests_more first told c.args.rests.now.items r
    (rests_same first c.args.pass.now.results told c.args.rests.now.items c.start_spawned.ensures.results.0 c.requires.rests)
    (rest_now first c.start_spawned.new.pass c.args.place m told c.start_spawned.ensures.now stopped refl))

pub returns-in_ok-push-in-Ended : goal.returns-in_ok-push-in-Ended
returns-in_ok-push-in-Ended g c =
    let started = c.in_ok-start_spawned.ensures in
    let finished = c.finish.ensures.finished in
    let rows = finished_rows c.start_spawned.new.pass.seen c.finish.new.pass.seen c.args.place finished in
    let first = c.args.self.now.cells.now.first in
    let told : List (ℕ × List Chosen) = c.finish.new.pass.results in
    let m = c.args.suspended in
    let r : Rest = record { thread = c.args.place.thread; suspended = m } in
    let stopped = tells_stopped c.args.turn m.machine.value.phase c.requires.turn in
    record {
      here = c.finish.ensures.here;
      rests = subst (AreAtRest first told) (sym c.in_ok-push-in-Ended.ensures.items)
          (rests_more first told c.args.rests.now.items r
          (rests_same first c.start_spawned.new.pass.results told c.args.rests.now.items c.finish.ensures.results.0
          (rests_same first c.args.pass.now.results c.start_spawned.new.pass.results c.args.rests.now.items c.start_spawned.ensures.results.0 c.requires.rests))
          (rest_now first c.start_spawned.new.pass c.args.place m told c.start_spawned.ensures.now stopped c.finish.ensures.results.0));
      rows = (λ r h. rows.0 r (c.start_spawned.ensures.rows.0 r h), λ r h. rows.1 r (c.start_spawned.ensures.rows.1 r h));
      threads = begin_yet c.args.self.now.cells.now.threads c.args.place.thread c.start_spawned.new.pass.seen c.finish.new.pass.seen c.start_spawned.new.threads.items (finished_leaves c.start_spawned.new.pass.seen c.finish.new.pass.seen c.args.place finished) started.threads.0 started.threads.1;
      opened = tt;
    }

-- the machine has come to its end where the thread stands
pub finish-requires : goal.finish-requires
finish-requires g c =
    let now = c.start_spawned.ensures.now in
    record {
      here = (c.start_spawned.ensures.here, c.requires.here.1);
      stands = (c.start_spawned.ensures.stands, now.alive);
      finishing = λ houses housing. record { value = c.args.suspended; earlier = now.earlier; count = now.count; seen = now.seen; does = (now.machine, tells_over c.args.turn c.args.suspended.machine.value.phase c.in-Ended.is c.requires.turn) };
    }
