use Rattle.std.proofs.Common.{rules, ◌≡◌, ◌≤◌, ◌∙◌, ◌++◌, ◌∷◌, [], ℕ, List, add-one, ap, length, subst, sym}
use Rattle.std.specs.Box.{with_value}
use Rattle.protocol_values.specs.declared.Row.{Row}
use Rattle.protocol_ledger.specs.Standing.{IsLeft}
use Rattle.thread.specs.After.{Chosen}
use Rattle.thread.specs.Machines.{SameProcess, Thread}
use Rattle.thread.specs.Memories.{AddsNew}
use Rattle.cell_table.specs.declared.view.Seen.{Seen}
use Rattle.cell_table.specs.Sight.{Has, SawEnded}
use Rattle.protocol_values.specs.Values.{next_row}
use Rattle.cell.specs.Calls.{CanFetch, CanFetchAt}
use Rattle.runtime_worker.specs.declared.resident.Suspended.{Suspended}
use Rattle.runtime_worker.specs.Machines.{IsNow, SpawnedSince, doings}
use Rattle.runtime_worker.proofs.Turning.{fetched_later, no_fewer, now_resumed, since}
use Rattle.runtime_worker.proofs.crew.Crew.resume.Goals as goal

-- the machine that came out with the row went on from there
pub enter-requires-clause-now : goal.enter-requires-clause-now
enter-requires-clause-now g c =
    let cells = c.args.self.now.cells.now in
    let row = c.args.taken.row in
    let own = c.args.taken.joined.own in
    let got = c.args.taken.message in
    let to = c.requires.resumes in
    let old = c.fetch-suspended.result in
    let back = fetched_later cells c.args.pass.now c.fetch-suspended.new.pass c.args.next old row to.2 c.requires.next to.3 c.fetch-suspended.ensures.fetched in
    let left = subst (λ (v : Suspended). IsLeft doings cells.first v row own to.0 got) back.0 to.4 in
    let machine = c.in_ok-turn.ensures in
    let is = c.deref_mut.ensures.value in
    let now : Suspended = record { machine = with_value c.fetch-suspended.result.machine c.resume.new.self } in
    subst (λ (r : Row). IsNow cells.first c.fetch-suspended.new.pass r now) (sym c.requires.next)
    (now_resumed cells c.requires.here.2 c.fetch-suspended.new.pass row own to.0 got old now left
    (subst (λ (t : Thread). SameProcess t c.resume.new.self) is machine.process)
    (subst (λ (t : Thread). ◌≡◌ {A = List Chosen} c.resume.new.self.results (t.results ++ (own, got) ∷ [])) is machine.results)
    (subst (λ (t : Thread). AddsNew t.spawned c.resume.new.self.spawned) is machine.spawned)
    machine.after (search rules) c.requires.message
    (subst (λ (l : List (ℕ × List Chosen)). Has l (row.thread, to.0)) (sym c.fetch-suspended.ensures.made.1) to.1)
    (subst (λ (z : Seen × Row). ¬ SawEnded z.0 z.1.thread) (λ i. (sym back.1 i, c.requires.next i)) c.requires.alive))

pub enter-requires-clause-since : goal.enter-requires-clause-since
enter-requires-clause-since g c =
    let cells = c.args.self.now.cells.now in
    let row = c.args.taken.row in
    let own = c.args.taken.joined.own in
    let got = c.args.taken.message in
    let to = c.requires.resumes in
    let old = c.fetch-suspended.result in
    let back = fetched_later cells c.args.pass.now c.fetch-suspended.new.pass c.args.next old row to.2 c.requires.next to.3 c.fetch-suspended.ensures.fetched in
    let left = subst (λ (v : Suspended). IsLeft doings cells.first v row own to.0 got) back.0 to.4 in
    let machine = c.in_ok-turn.ensures in
    let is = c.deref_mut.ensures.value in
    let now : Suspended = record { machine = with_value c.fetch-suspended.result.machine c.resume.new.self } in
    let same = subst (λ (t : Thread). SameProcess t c.resume.new.self) is machine.process in
    let given = subst (λ (t : Thread). ◌≡◌ {A = List Chosen} c.resume.new.self.results (t.results ++ (own, got) ∷ [])) is machine.results in
    let adds = subst (λ (t : Thread). AddsNew t.spawned c.resume.new.self.spawned) is machine.spawned in
    let had : length old.machine.value.spawned ≡ length c.spawned-had.result.now = ap (λ (l : List ℕ). length l) (sym (c.spawned-had.ensures ∙ ap (λ (t : Thread). t.spawned) c.deref.ensures)) in (
      subst (λ (z : Row × ℕ). SpawnedSince now z.0.thread z.1) (λ i. (sym c.requires.next i, had i)) (since cells c.requires.here.2 c.fetch-suspended.new.pass row own to.0 got old now left same given adds),
      subst (λ (n : ℕ). n ≤ length c.resume.new.self.spawned) had (no_fewer cells c.requires.here.2 c.fetch-suspended.new.pass row own to.0 got old now left same given adds),
    )

-- the machine came out with the row, and lies first
pub fetch-suspended-requires-clause-can : goal.fetch-suspended-requires-clause-can
fetch-suspended-requires-clause-can g c =
    let cells = c.args.self.now.cells.now in
    let p = c.args.pass.now in
    let row = c.args.taken.row in
    let to = c.requires.resumes in
    subst (CanFetch cells p) (sym c.requires.next) (subst (CanFetchAt cells p (next_row row)) (sym (add-one row.sync)) (to.2, to.3))
