use Rattle.std.proofs.Common.{◌≡◌, ◌<◌, ℕ, List, Option, length, sym, subst, ap}
use Rattle.protocol_ledger.specs.Worlds.{nack_of_row}
use Rattle.protocol_ledger.specs.Standing.{Result}
use Rattle.cell.specs.Attempts.{Bound, BoundBefore}
use Rattle.cell.specs.Calls.{GridOf, PassOf}
use Rattle.cell_table.specs.Sight.{LearnsOf}
use Rattle.cell_table.specs.declared.view.Seen.{Seen}
use Rattle.cell.proofs.cells.Cells.bind.Goals as goal

pub returns-clause-bound : goal.returns-clause-bound
returns-clause-bound g c =
    subst (λ (s : Seen). Bound s c.bind.new.seat.me.0.seen c.args.k c.args.row c.args.scope c.bind.result) (ap (λ (p : PassOf g.row.M.Denot). p.seen) c.pass.view_is) c.bind.ensures.bound

pub returns-clause-learns : goal.returns-clause-learns
returns-clause-learns g c =
    subst (λ (p : PassOf g.row.M.Denot). LearnsOf (λ q. ⊥) (λ n. n ≡ nack_of_row c.args.row c.args.k) (λ t. ⊥) p.seen c.bind.new.seat.me.0.seen) c.pass.view_is c.bind.ensures.learns

pub returns-clause-earlier : goal.returns-clause-earlier
returns-clause-earlier g c lost housed =
    let first = ap (λ (grid : GridOf g.row.M.Denot). grid.first) c.self.view_is in
    let results = ap (λ (p : PassOf g.row.M.Denot). p.results) c.pass.view_is in
    subst (λ (z : List (Option g.row.M.Denot) × List (ℕ × List Result)). BoundBefore g.M.Resident.stands z.0 z.1 c.bind.new.seat.me.0.seen c.args.k c.args.row) (λ i. (first i, results i))
    (c.bind.ensures.earlier lost (subst (λ (l : List (Option g.row.M.Denot)). 0 < length l) (sym first) housed))
