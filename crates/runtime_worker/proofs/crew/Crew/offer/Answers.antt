use Rattle.std.proofs.Common.{rules, arith, ◌≡◌, ◌≤◌, ◌<◌, ℕ, List, Option, Some, length, refl, subst, sym}
use Rattle.thread.specs.After.{Chosen}
use Rattle.thread.specs.Machines.{IsOpen, nacks_in, offers_in}
use Rattle.cell.specs.Calls.{GridOf, Holds}
use Rattle.protocol_ledger.specs.Short.{HasWords}
use Rattle.protocol_values.specs.declared.Row.{Row}
use Rattle.cell_table.specs.Rule.{IsReady}
use Rattle.cell_table.specs.declared.view.Seen.{Seen}
use Rattle.runtime_worker.specs.Machines.{IsMachineOf, IsTable, NamesInRange, doings}
use Rattle.runtime_worker.specs.declared.resident.Suspended.{Suspended}
use Rattle.runtime_worker.proofs.Machines.{open_is, ready}
use Rattle.runtime_worker.proofs.Ranging.{names_in_range}
use Rattle.runtime_worker.proofs.Widths.{stands_at_most}
use Rattle.protocol_values.specs.declared.Offer.{Offer}
use Rattle.runtime_worker.proofs.crew.Crew.offer.Goals as goal

-- what a machine offers has room in words
pub offers_fit-requires-clause-names : goal.offers_fit-requires-clause-names
offers_fit-requires-clause-names g c =
    let m = c.args.suspended in
    let phase = m.machine.value.phase in
    let open_now = open_is phase c.requires.open in
    let nacks : c.nacks.result.now ≡ nacks_in phase = (search rules) in
    let offers : offers_in phase ≡ c.offers.result.now = (search rules) in
    let few : length (nacks_in phase) ≤ 4 = subst (λ (l : List ℕ). length l ≤ 4) nacks c.nacks.ensures.few in
    subst NamesInRange offers
    (names_in_range c.args.self.now.cells.now c.args.place.thread m c.requires.now.earlier (offers_in phase) (nacks_in phase) c.requires.here.2 (c.requires.now.machine, open_now) few)

-- and so have the table's rows
pub draft-requires-clause-room : goal.draft-requires-clause-room
draft-requires-clause-room g c =
    let m = c.args.suspended in
    let phase = m.machine.value.phase in
    let table = c.requires.here.2 in
    let offers : offers_in phase ≡ c.offers-2.result.now = (search rules) in
    subst (λ (l : List Offer). length l ≤ c.args.self.now.cells.now.layout.offers) offers
    (stands_at_most c.args.self.now.cells.now.layout.offers table.processes c.args.self.now.cells.now.first c.args.place.thread m c.requires.now.earlier (offers_in phase) (nacks_in phase) table.first table.narrow (c.requires.now.machine, open_is phase c.requires.open))

-- and so has its thread for the row
has_words : (cells : GridOf Suspended) (table : IsTable cells) (r : Row) (m : Suspended) (earlier : List Chosen) → IsMachineOf cells.first m r.thread earlier → IsOpen m.machine.value.phase → length earlier ≡ r.sync → r.sync < cells.rows → HasWords cells.layout r
has_words cells table r m earlier machine is_open count below =
    let phase = m.machine.value.phase in
    let there = table.words r.thread m earlier (offers_in phase) (nacks_in phase) (machine, open_is phase is_open) (omega arith) in
    omega arith

pub draft-requires-clause-words : goal.draft-requires-clause-words
draft-requires-clause-words g c = λ short. has_words c.args.self.now.cells.now c.requires.here.2 c.args.place c.args.suspended c.requires.now.earlier c.requires.now.machine c.requires.open c.requires.now.count c.requires.here.1.1

pub open-requires-clause-words : goal.open-requires-clause-words
open-requires-clause-words g c = λ short. has_words c.args.self.now.cells.now c.requires.here.2 c.args.place c.args.suspended c.requires.now.earlier c.requires.now.machine c.requires.open c.requires.now.count c.requires.here.1.1

pub park-requires-clause-ready : goal.park-requires-clause-ready
park-requires-clause-ready g c = λ below.
    let m = c.args.suspended in
    let open_now = open_is m.machine.value.phase c.requires.open in
    ready c.args.self.now.cells.now.first c.args.pass.now c.bind_all.new.pass c.draft.new.pass c.args.place m c.requires.now open_now c.requires.free c.bind_all.ensures.only c.bind_all.ensures.bound c.draft.ensures.others c.draft.ensures.results.0 (search rules)

pub open-requires-clause-parked : goal.open-requires-clause-parked
open-requires-clause-parked g c = λ housed here.
    let p = c.park.new.pass in
    let m = c.args.suspended in
    let open_now = open_is m.machine.value.phase c.requires.open in
    let is_ready = ready c.args.self.now.cells.now.first c.args.pass.now c.bind_all.new.pass c.draft.new.pass c.args.place m c.requires.now open_now c.requires.free c.bind_all.ensures.only c.bind_all.ensures.bound c.draft.ensures.others c.draft.ensures.results.0 (search rules) in (
      m,
      subst (λ (l : List (ℕ × Option Suspended)). Holds {M = Suspended} (record { of = p.of; seen = p.seen; made = p.made; results = p.results; out = l }) c.args.place (Some m)) (sym c.park.ensures.parked) refl,
      subst (λ (z : List (ℕ × List Chosen) × Seen). IsReady doings c.args.self.now.cells.now.first z.0 z.1 c.args.place m) (λ i. (sym c.park.ensures.made.1 i, sym c.park.ensures.seen i)) is_ready,
    )
