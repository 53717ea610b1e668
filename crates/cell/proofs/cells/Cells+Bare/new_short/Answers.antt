use Rattle.std.proofs.Common.{◌≡◌, ◌∙◌, ℕ, [], length, slice_get, Some, ap, sym, subst}
use Rattle.std.specs.Prelude.{IfOk}
use Rattle.protocol_ledger.specs.Openings.{IsOpening, Opening, opening_of, start_opening}
use Rattle.protocol_ledger.proofs.LedgerLemmas.{start_threads}
use Rattle.cell.specs.Calls.{IsPassOf, PassView}
use Rattle.cell_table.specs.Rule.{dealt_from, seen_nothing}
use Rattle.protocol_ledger.proofs.Going.{start_opens}
use Rattle.std.specs.Prelude.{◌≤◌, ◌<◌}
use Rattle.std.proofs.Common.{arith}
use Rattle.protocol_ledger.specs.Short.{Fits, rows_of}
use Rattle.protocol_ledger.specs.declared.layout.Layout.{Layout}
use Rattle.cell.specs.Calls.{AllHaveWords}
use Rattle.cell.proofs.Evenness.{even_all, even_some}
use Rattle.cell.proofs.cells.Cells+Bare.new_short.Goals as goal

pub next_of-requires-clause-opening : goal.next_of-requires-clause-opening
next_of-requires-clause-opening c =
    let is : opening_of c.in_ok-opening.opening ≡ start_opening c.args.threads c.args.later = c.in_ok-opening.ensures in
    subst (λ (o : Opening). IsOpening o c.args.rows) (sym is) (start_opens c.args.threads c.args.rows c.args.later c.requires.threads.0 c.requires.threads.1 c.requires.rows.1)

pub returns-clause-passes : goal.returns-clause-passes
returns-clause-passes c =
    let is : opening_of c.in_ok-opening.opening ≡ start_opening c.args.threads c.args.later = c.in_ok-opening.ensures in
    let size : length c.in_ok-opening.opening.threads.items ≡ c.args.threads = ap (λ (o : Opening). length o.threads) is ∙ start_threads c.args.threads c.args.later in
    subst (λ (z : Opening × ℕ). IfOk c.next_of.result (λ t. (number : ℕ) (pass : PassView) → slice_get t.1.items number ≡ Some pass → IsPassOf t.0 pass × (pass.seen ≡ seen_nothing (dealt_from z.0 z.1 c.args.passes number)) × (pass.made ≡ []))) (λ i. (is i, size i)) c.next_of.ensures.passes

pub next_of-requires-clause-layout : goal.next_of-requires-clause-layout
next_of-requires-clause-layout c =
    let is : opening_of c.in_ok-opening.opening ≡ start_opening c.args.threads c.args.later = c.in_ok-opening.ensures in
    let size : length c.in_ok-opening.opening.threads.items ≡ c.args.threads = ap (λ (o : Opening). length o.threads) is ∙ start_threads c.args.threads c.args.later in
    let few = c.requires.threads.1 in
    subst (λ (y : Layout). Fits y c.args.rows × ((t : ℕ) → t < length c.in_ok-opening.opening.threads.items → 1 ≤ rows_of y t)) (sym c.even-layout.ensures) (even_some c.from.result c.args.rows (length c.in_ok-opening.opening.threads.items) (omega arith) (omega (arith, c.from.ensures, c.requires.offers)) c.requires.rows.0)

pub next_of-requires-clause-whole : goal.next_of-requires-clause-whole
next_of-requires-clause-whole c whole =
    let is : opening_of c.in_ok-opening.opening ≡ start_opening c.args.threads c.args.later = c.in_ok-opening.ensures in
    let size : length c.in_ok-opening.opening.threads.items ≡ c.args.threads = ap (λ (o : Opening). length o.threads) is ∙ start_threads c.args.threads c.args.later in
    let few = c.requires.threads.1 in
    subst (λ (y : Layout). AllHaveWords y (length c.in_ok-opening.opening.threads.items) c.args.rows) (sym c.even-layout.ensures) (even_all c.from.result c.args.rows (length c.in_ok-opening.opening.threads.items) (omega arith))
