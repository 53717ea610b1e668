use Rattle.std.proofs.Common.{rules, ◌≡◌, ◌∙◌, ℕ, List, Option, [], length, slice_get, Some, ap, sym, subst}
use Rattle.std.specs.Prelude.{IfOk, ◌<◌}
use Rattle.protocol_ledger.specs.Openings.{IsOpening, Opening, opening_of, start_opening}
use Rattle.protocol_ledger.proofs.LedgerLemmas.{start_threads}
use Rattle.cell.specs.Calls.{AllHaveWords, IsPassOf, PassOf}
use Rattle.cell_table.specs.Rule.{AreMachines, dealt_from, seen_nothing}
use Rattle.protocol_ledger.proofs.Going.{start_opens}
use Rattle.cell.proofs.Beginning.{first_machines}
use Rattle.cell.proofs.cells.Cells.with_machines_of.Goals as goal

pub next_of-requires-clause-opening : goal.next_of-requires-clause-opening
next_of-requires-clause-opening g c =
    let is : opening_of c.in_ok-opening.opening ≡ start_opening (length c.args.first.items) c.args.later = (search rules) in
    subst (λ (o : Opening). IsOpening o c.args.rows) (sym is) (start_opens (length c.args.first.items) c.args.rows c.args.later c.requires.threads.0 c.requires.threads.1 c.requires.rows.1)

pub next_of-requires-clause-machines : goal.next_of-requires-clause-machines
next_of-requires-clause-machines g c =
    let is : opening_of c.in_ok-opening.opening ≡ start_opening (length c.args.first.items) c.args.later = (search rules) in
    subst (λ (z : Opening × List (Option g.row.M.Denot)). AreMachines z.0 z.1) (λ i. (sym is i, sym c.in_ok-slots.ensures i)) (first_machines c.args.first.items c.args.later)

pub returns-clause-passes : goal.returns-clause-passes
returns-clause-passes g c =
    let is : opening_of c.in_ok-opening.opening ≡ start_opening (length c.args.first.items) c.args.later = (search rules) in
    let size : length c.in_ok-opening.opening.threads.items ≡ length c.args.first.items = ap (λ (o : Opening). length o.threads) is ∙ start_threads (length c.args.first.items) c.args.later in
    subst (λ (z : Opening × ℕ). IfOk c.next_of.result (λ t. (number : ℕ) (pass : PassOf g.row.M.Denot) → slice_get t.1.items number ≡ Some pass → IsPassOf t.0 pass × (pass.seen ≡ seen_nothing (dealt_from z.0 z.1 c.args.passes number)) × (pass.made ≡ []))) (λ i. (is i, size i)) c.next_of.ensures.passes

-- as many threads as machines
pub next_of-requires-clause-layout : goal.next_of-requires-clause-layout
next_of-requires-clause-layout g c =
    let is : opening_of c.in_ok-opening.opening ≡ start_opening (length c.args.first.items) c.args.later = (search rules) in
    let size : length c.in_ok-opening.opening.threads.items ≡ length c.args.first.items = ap (λ (o : Opening). length o.threads) is ∙ start_threads (length c.args.first.items) c.args.later in
    (c.requires.layout.0, λ t below. c.requires.layout.1 t (subst (λ (n : ℕ). t < n) size below))

pub next_of-requires-clause-whole : goal.next_of-requires-clause-whole
next_of-requires-clause-whole g c whole =
    let is : opening_of c.in_ok-opening.opening ≡ start_opening (length c.args.first.items) c.args.later = (search rules) in
    let size : length c.in_ok-opening.opening.threads.items ≡ length c.args.first.items = ap (λ (o : Opening). length o.threads) is ∙ start_threads (length c.args.first.items) c.args.later in
    subst (λ (n : ℕ). AllHaveWords c.args.layout n c.args.rows) (sym size) (c.requires.whole whole)
