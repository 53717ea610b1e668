use Rattle.std.proofs.Common.{rules, ◌≡◌, ℕ, [], length, subst}
use Rattle.cell.specs.Calls.{IsPassOf, PassOf}
use Rattle.cell_table.specs.Rule.{seen_nothing, dealt_rows}
use Rattle.cell.proofs.Playing.{popped}
use Rattle.test_journal.specs.declared.tests.suspended.Suspended.{Suspended}
use Rattle.test_journal.proofs.tests.fetched.table.Goals as goal

pub returns-clause-here : goal.returns-clause-here
returns-clause-here c =
    (popped (λ (n : ℕ) (p : PassOf Suspended). IsPassOf c.in_ok-cells.cells p × (p.seen ≡ seen_nothing (dealt_rows (length c.in_ok-first.first.items) 1 n)) × (p.made ≡ []))
    c.in_ok-cells.passes.items c.pop.new.self.items c.in-Some.pass 0 c.in-Some.ensures.items c.in_ok-cells.ensures.size.3 c.in_ok-cells.ensures.passes).0.0

pub returns-clause-seen : goal.returns-clause-seen
returns-clause-seen c =
    let two : length c.in_ok-first.first.items ≡ 2 = (search rules) in
    subst (λ (threads : ℕ). c.in-Some.pass.seen ≡ seen_nothing (dealt_rows threads 1 0)) two
    (popped (λ (n : ℕ) (p : PassOf Suspended). IsPassOf c.in_ok-cells.cells p × (p.seen ≡ seen_nothing (dealt_rows (length c.in_ok-first.first.items) 1 n)) × (p.made ≡ []))
    c.in_ok-cells.passes.items c.pop.new.self.items c.in-Some.pass 0 c.in-Some.ensures.items c.in_ok-cells.ensures.size.3 c.in_ok-cells.ensures.passes).0.1
