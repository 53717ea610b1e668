use Rattle.std.proofs.Common.{rules, ◌≡◌, ℕ, suc, ◌+◌, ◌<◌, List, ◌∷◌, length, Option, Some, refl, sym, subst, arith}
use Rattle.protocol_ledger.specs.Standing.{Result, Stands}
use Rattle.protocol_values.specs.declared.Joined.{Joined}
use Rattle.protocol_values.specs.declared.Row.{Row}
use Rattle.protocol_values.specs.Values.{next_row}
use Rattle.cell.specs.Attempts.{Hands}
use Rattle.cell.specs.Calls.{CanFetch, CanFetchAt, Holds, PassOf}
use Rattle.cell_table.specs.declared.view.Seen.{Seen}
use Rattle.test_journal.specs.declared.tests.suspended.Suspended.{Suspended}
use Rattle.test_journal.proofs.tests.fetched.go_on.Goals as goal

-- what came out with a row that was taken
came_out : {M : Type 0} (stands : Stands M) (first : List (Option M)) (old new : Seen) (r : Row) (o : Option Joined) (j : Joined) (results : List (ℕ × List Result)) (before after : List (ℕ × Option M)) → o ≡ Some j → 0 < length first
    → Hands stands first old new r o results before after → (value : M) × (after ≡ (r.thread, Some value) ∷ before)
came_out stands first old new r o j results before after is filled hands =
    let out = (subst (λ (x : Option Joined). Hands stands first old new r x results before after) is hands).3.1 filled in
    (out.0, out.2)

pub fetch-fetched-requires-clause-can : goal.fetch-fetched-requires-clause-can
fetch-fetched-requires-clause-can g c =
    let took : c.take.result ≡ Some c.in_ok-joined.joined = (search rules) in
    let after = c.take.new.pass in
    let out = came_out _ c.args.cells.now.first c.result.new.pass.seen after.seen c.args.row c.take.result c.in_ok-joined.joined after.results c.result.new.pass.out after.out took (search rules) c.take.ensures.out in
    let holds : Holds after c.args.row (Some out.0) = subst (λ (p : PassOf Suspended). Holds p c.args.row (Some out.0)) (λ i. record after { out = sym out.1 i }) refl in
    let behind : suc c.args.row.sync ≡ c.args.row.sync + 1 = omega arith in
    subst (λ (r : Row). CanFetch c.args.cells.now after r) (sym c.next-next.ensures)
    (subst (λ (n : ℕ). CanFetchAt c.args.cells.now after (next_row c.args.row) n) behind (out.0, holds))
