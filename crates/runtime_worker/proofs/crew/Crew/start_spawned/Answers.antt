use Rattle.std.proofs.Common.{◌≡◌, ◌-◌, ◌∙◌, ◌++◌, ◌∷◌, [], ℕ, Bool, Global, List, Vec, ap, get_or, length, subst, sym, take}
use Rattle.std.specs.Prelude.{drop, if◌then◌else◌}
use Rattle.thread.specs.Machines.{Thread}
use Rattle.runtime_worker.proofs.Beginnings.{begin_then, stands_in, stands_there}
use Rattle.runtime_worker.proofs.Startings.{started_rows, started_stands, starts_another, starts_now}
use Rattle.runtime_worker.proofs.Turning.{free_started, now_started}
use Rattle.runtime_worker.proofs.crew.Crew.start_spawned.Goals as goal
use Rattle.runtime_worker.proofs.crew.Crew.start_spawned.Goals.{then-start+in_ok-push, else-start}

-- the machine has spawned it, behind those that it had spawned before
pub start-requires-clause-other : goal.start-requires-clause-other
start-requires-clause-other g c =
    let m = c.args.suspended.now in
    let now = c.loop-other.invariant.now in
    let behind = stands_there c.spawned.result.now m.machine.value.spawned c.args.had c.loop-other.other-index (c.spawned.ensures ∙ ap (λ (t : Thread). t.spawned) c.deref.ensures) c.loop-other-test.true in
    starts_another c.args.self.now.cells.now c.requires.here.2 c.args.place c.requires.here.1.0 m now.earlier now.machine c.requires.now.1 _ (stands_in m.machine.value.spawned c.args.had _ behind)

pub start-requires-clause-starting : goal.start-requires-clause-starting
start-requires-clause-starting g c = λ houses housing.
    let m = c.args.suspended.now in
    let now = c.loop-other.invariant.now in
    let behind = stands_there c.spawned.result.now m.machine.value.spawned c.args.had c.loop-other.other-index (c.spawned.ensures ∙ ap (λ (t : Thread). t.spawned) c.deref.ensures) c.loop-other-test.true in
    record {
      value = m;
      earlier = now.earlier;
      count = now.count;
      seen = now.seen;
      does = starts_now c.args.self.now.cells.now c.requires.here.2 c.args.place c.requires.here.1.0 m now.earlier now.machine c.requires.now.1 _ (stands_in m.machine.value.spawned c.args.had _ behind) c.args.had c.requires.since.0 behind;
    }

pub loop-other-preserved : goal.loop-other-preserved
loop-other-preserved g c =
    let cells = c.args.self.now.cells.now in
    let inv = c.loop-other.invariant in
    let started = c.start.ensures.started in
    let rows = started_rows c.loop-other.pass.seen c.start.new.pass.seen c.args.place _ c.start.result started in
    let m = c.args.suspended.now in
    let behind = stands_there c.spawned.result.now m.machine.value.spawned c.args.had c.loop-other.other-index (c.spawned.ensures ∙ ap (λ (t : Thread). t.spawned) c.deref.ensures) c.loop-other-test.true in
    let other = starts_another cells c.requires.here.2 c.args.place c.requires.here.1.0 m inv.now.earlier inv.now.machine c.requires.now.1 _ (stands_in m.machine.value.spawned c.args.had _ behind) in
    let before = c.loop-other.threads.items in
    let p = get_or (take (length c.spawned.result.now - c.args.had) (drop c.args.had c.spawned.result.now)) c.loop-other.other-index 0 in
    let Grown = λ (b : Bool). ◌≡◌ {A = List ℕ} c.if-start.threads.items (if b then before ++ p ∷ [] else before) in
    let grown : Grown c.start.result = elim c.if-start.branch [
      | then-start+in_ok-push w ↦ subst Grown (sym w.if-start.true) (ap (λ (v : Vec ℕ Global). v.items) w.threads-is ∙ w.in_ok-push.ensures.items)
      | else-start w ↦ subst Grown (sym w.if-start.false) (ap (λ (v : Vec ℕ Global). v.items) w.threads-is)
    ] in
    let listed = begin_then cells.threads c.loop-other.pass.seen c.start.new.pass.seen c.args.place _ c.start.result c.loop-other.threads.items c.if-start.threads.items started other inv.threads inv.others grown in
    record {
      here = c.start.ensures.here;
      stands = started_stands cells.rows c.loop-other.pass.seen c.start.new.pass.seen c.args.place _ c.start.result started inv.stands;
      now = now_started c.loop-other.pass c.start.new.pass c.args.place _ c.start.result cells.first c.args.suspended.now inv.now started c.start.ensures.results.0;
      rows = (λ r h. rows.0 r (inv.rows.0 r h), λ r h. rows.1 r (inv.rows.1 r h));
      free = free_started c.loop-other.pass c.start.new.pass c.args.place _ c.start.result started inv.free;
      results = (c.start.ensures.results.0 ∙ inv.results.0, c.start.ensures.results.1 ∙ inv.results.1);
      threads = listed.0;
      others = listed.1;
    }
