use Rattle.std.proofs.Common.{rules, ◌≡◌, ◌⊎◌, ◌≤◌, ◌∙◌, ℕ, List, Some, ap, inl, length, slice_get, subst, sym}
use Rattle.std.specs.Box.{with_value}
use Rattle.thread.specs.Machines.{Broken, IsOpen, Ready, SameProcess, Tells, Thread}
use Rattle.thread.specs.declared.machine.Turn.{Turn}
use Rattle.cell_table.specs.declared.view.Seen.{Seen}
use Rattle.cell_table.specs.Sight.{see_begun}
use Rattle.runtime_worker.specs.declared.resident.Suspended.{Suspended}
use Rattle.runtime_worker.specs.Machines.{AreToBegin, IsNow, SpawnedSince}
use Rattle.runtime_worker.proofs.Beginnings.{begin_yet, leaves_begun}
use Rattle.runtime_worker.proofs.Processes.{is_new}
use Rattle.runtime_worker.proofs.Resting.{tells_stopped}
use Rattle.runtime_worker.proofs.Spawns.{since_standing}
use Rattle.runtime_worker.proofs.Turning.{not_standing, now_begun, now_standing, since_first}
use Rattle.runtime_worker.proofs.crew.Crew.begin.Goals as goal
use Rattle.runtime_worker.proofs.crew.Crew.begin.Goals.{then-is_offering, else-is_offering+in_ok-turn}

-- a machine that stands at no sync has its process before it
pub begin-requires : goal.begin-requires
begin-requires g c =
    let cells = c.args.self.now.cells.now in
    let start = c.fetch-suspended.result in
    let is_first : slice_get cells.first c.args.row.thread ≡ Some (Some start) = (search rules) in
    let not_open : ¬ IsOpen start.machine.value.phase = not_standing start.machine.value c.deref-2.result.now c.is_offering.result c.deref-2.ensures c.if-is_offering.false c.is_offering.ensures.1 in
    subst (λ (t : Thread). (t.phase ≡ Ready) ⊎ (t.phase ≡ Broken)) (sym c.deref_mut.ensures.value) (inl (is_new c.requires.here.2.processes cells.first c.args.row.thread start c.requires.here.2.first is_first not_open).1.phase)

pub enter-requires-clause-turn : goal.enter-requires-clause-turn
enter-requires-clause-turn g c =
    let Told = λ (z : Turn × Suspended). Tells z.0 z.1.machine.value.phase in
    elim c.if-is_offering.branch [
      | then-is_offering w ↦ subst Told (λ i. (sym w.turn-is i, sym w.suspended-is i)) (subst (λ (t : Thread). Tells w.turn-turn.result t.phase) w.deref-then-is_offering.ensures w.turn-turn.ensures.turn)
      | else-is_offering+in_ok-turn w ↦ subst Told (λ i. (sym w.turn-is i, sym w.suspended-is i)) w.in_ok-turn.ensures.turn
    ]

-- it stands at its thread's first stop
pub enter-requires-clause-now : goal.enter-requires-clause-now
enter-requires-clause-now g c =
    let cells = c.args.self.now.cells.now in
    let table = c.requires.here.2 in
    let p = c.fetch-suspended.new.pass in
    let start = c.fetch-suspended.result in
    let seen : p.seen ≡ see_begun c.args.row c.args.pass.now.seen = (search rules) in
    let is_first : slice_get cells.first c.args.row.thread ≡ Some (Some start) = (search rules) in
    elim c.if-is_offering.branch [
      | then-is_offering w ↦
          let open_now : IsOpen start.machine.value.phase = subst (λ (t : Thread). IsOpen t.phase) c.deref-2.ensures (c.is_offering.ensures.0 w.if-is_offering.true) in
          subst (IsNow cells.first p c.args.row) (sym w.suspended-is)
          (now_standing cells table c.args.pass.now.seen p c.args.row start c.requires.first.0 c.requires.untouched.3 is_first seen open_now)
      | else-is_offering+in_ok-turn w ↦
          let not_open : ¬ IsOpen start.machine.value.phase = not_standing start.machine.value c.deref-2.result.now c.is_offering.result c.deref-2.ensures w.if-is_offering.false c.is_offering.ensures.1 in
          let m : Suspended = record { machine = with_value start.machine w.begin.new.self } in
          let same = subst (λ (t : Thread). SameProcess t w.begin.new.self) w.deref_mut.ensures.value w.in_ok-turn.ensures.process in
          subst (IsNow cells.first p c.args.row) (sym w.suspended-is)
          (now_begun cells table c.args.pass.now.seen p c.args.row start c.requires.first.0 c.requires.untouched.3 is_first seen not_open m same w.in_ok-turn.ensures.results w.in_ok-turn.ensures.after
          (tells_stopped w.in_ok-turn.turn w.begin.new.self.phase w.in_ok-turn.ensures.turn))
    ]

-- and what it spawned since it was fetched it spawns there
pub enter-requires-clause-since : goal.enter-requires-clause-since
enter-requires-clause-since g c =
    let cells = c.args.self.now.cells.now in
    let table = c.requires.here.2 in
    let p = c.fetch-suspended.new.pass in
    let start = c.fetch-suspended.result in
    let seen : p.seen ≡ see_begun c.args.row c.args.pass.now.seen = (search rules) in
    let is_first : slice_get cells.first c.args.row.thread ≡ Some (Some start) = (search rules) in
    let had : c.spawned-had.result.now ≡ start.machine.value.spawned = c.spawned-had.ensures ∙ ap (λ (t : Thread). t.spawned) c.deref.ensures in
    let Since = λ (z : Suspended × List ℕ). SpawnedSince z.0 c.args.row.thread (length z.1) × (length z.1 ≤ length z.0.machine.value.spawned) in
    elim c.if-is_offering.branch [
      | then-is_offering w ↦ subst Since (λ i. (sym w.suspended-is i, sym had i)) (since_standing start c.args.row.thread)
      | else-is_offering+in_ok-turn w ↦
          let not_open : ¬ IsOpen start.machine.value.phase = not_standing start.machine.value c.deref-2.result.now c.is_offering.result c.deref-2.ensures w.if-is_offering.false c.is_offering.ensures.1 in
          let m : Suspended = record { machine = with_value start.machine w.begin.new.self } in
          subst Since (λ i. (sym w.suspended-is i, sym had i))
          (since_first cells table c.args.pass.now.seen p c.args.row start c.requires.first.0 c.requires.untouched.3 is_first seen not_open m w.in_ok-turn.ensures.results)
    ]

pub enter-requires-clause-threads : goal.enter-requires-clause-threads
enter-requires-clause-threads g c =
    let seen : c.fetch-suspended.new.pass.seen ≡ see_begun c.args.row c.args.pass.now.seen = (search rules) in (
      subst (λ (s : Seen). AreToBegin c.args.self.now.cells.now.threads s c.args.threads.now.items) (sym seen)
          (begin_yet c.args.self.now.cells.now.threads c.args.row.thread c.args.pass.now.seen (see_begun c.args.row c.args.pass.now.seen) c.args.threads.now.items (leaves_begun c.args.row c.args.pass.now.seen) c.requires.threads.0 c.requires.threads.1),
      c.requires.threads.1,
    )
