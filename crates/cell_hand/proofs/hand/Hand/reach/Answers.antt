use Rattle.std.proofs.Common.{rules, ◌≡◌, ◌+◌, ◌-◌, ℕ, ap, arith, inr, refl, subst}
use Rattle.std.specs.Prelude.{Ok}
use Rattle.protocol_values.specs.declared.Row.{Row}
use Rattle.protocol_values.specs.Values.{next_row}
use Rattle.cell.specs.Attempts.{Took}
use Rattle.cell.specs.Calls.{IsRowOf}
use Rattle.cell_hand.specs.Hands.{HandOf}
use Rattle.cell_hand.specs.Calls.{Reaches}
use Rattle.cell_hand.specs.contracts.hand.Hand.{the_view}
use Rattle.cell_hand.specs.declared.hand.Table.{Table}
use Rattle.cell_hand.proofs.Looking.{reached}
use Rattle.cell_hand.proofs.hand.Hand.reach.Goals as goal

pub returns : goal.returns
returns c =
    let cells = c.self.inside.table.value.cells in
    let r = c.args.row in
    let q : Row = record { thread = r.thread; sync = r.sync - 1 } in
    let e : r.sync - 1 + 1 ≡ r.sync = omega (arith, c.if-row-eq0.false) in
    let is : next_row q ≡ r = ap (λ (n : ℕ). record { thread = r.thread; sync = n }) e in
    let there : IsRowOf cells r = (search rules) in
    let took = subst (λ (t : Table). Took t.cells.rows c.self.inside.pass.seen c.take.new.pass.seen q c.in-Some.field-0) c.deref-2.ensures c.in-Some.ensures.some in
    let now = reached cells.rows c.self.inside.pass.seen c.take.new.pass.seen q r c.in-Some.field-0 took is there.1 in
    subst (λ (h : HandOf). Reaches h (the_view (record { table = c.self.inside.table; pass = c.take.new.pass; scan = c.self.inside.scan })) r (Ok tt)) c.self.view_is
    ((there, now.0, now.1, now.2), (refl, refl, refl), inr (q, (refl, e), c.in-Some.ensures.made))
