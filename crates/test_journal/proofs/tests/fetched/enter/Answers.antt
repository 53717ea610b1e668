use Rattle.std.proofs.Common.{rules, ◌≡◌, ◌∷◌, ℕ, List, Option, Some, refl, sym, subst}
use Rattle.protocol_ledger.specs.Standing.{Result}
use Rattle.cell_table.specs.declared.view.Seen.{Seen}
use Rattle.cell.specs.Calls.{Holds}
use Rattle.cell_table.specs.Rule.{IsReady}
use Rattle.test_journal.specs.declared.tests.suspended.Suspended.{Suspended}
use Rattle.test_journal.specs.contracts.tests.suspended.SuspendedResident.TheImpl as resident
use Rattle.test_journal.proofs.tests.fetched.enter.Goals as goal

pub open-requires-clause-parked : goal.open-requires-clause-parked
open-requires-clause-parked g c = λ housed here.
    let p = c.park.new.pass in
    let ready : IsReady resident.ghosts.stands c.args.cells.now.first c.draft.new.pass.results c.draft.new.pass.seen c.args.row c.args.suspended = (search rules) in (
      c.args.suspended,
      subst (λ (l : List (ℕ × Option Suspended)). Holds {M = Suspended} (record { of = p.of; seen = p.seen; made = p.made; results = p.results; out = l }) c.args.row (Some c.args.suspended)) (sym c.park.ensures.parked) refl,
      subst (λ (z : List (ℕ × List Result) × Seen). IsReady resident.ghosts.stands c.args.cells.now.first z.0 z.1 c.args.row c.args.suspended) (λ i. (sym c.park.ensures.made.1 i, sym c.park.ensures.seen i)) ready,
    )
