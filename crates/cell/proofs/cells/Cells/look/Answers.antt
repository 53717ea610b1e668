-- A look changes no place at which the pass stands.
use Rattle.std.proofs.Common.{◌≡◌, ◌∙◌, ◌+◌, ap, length, subst, sym}
use Rattle.cell_table.specs.declared.view.View.{View}
use Rattle.cell.specs.Flags.{AreFlags, places_of}
use Rattle.cell.proofs.Learning.{learns_look}
use Rattle.cell.proofs.cells.Cells.look.Goals as goal

pub invariant_of-pass : goal.invariant_of-pass
invariant_of-pass g c =
    let old = c.pass.inside in
    let was = c.pass.invariant in
    let is = c.look.ensures.saw in
    let learnt = learns_look c.args.row c.look.result old.seat.me.0.seen in
    let places : places_of c.look.new.seat.me.0.rows c.look.new.seat.me.0.seen ≡ places_of old.seat.me.0.rows old.seat.me.0.seen =
    ap (λ (v : View _). places_of v.rows v.seen) is ∙ (λ i. places_of old.seat.me.0.rows (record old.seat.me.0.seen { held = learnt.held i; lasts = learnt.lasts i })) in (
      ap (λ (v : View _). v.stage) is ∙ was.0,
      ap (λ (v : View _). v.threads) is ∙ was.1,
      ap (λ (v : View _). v.rows + 1) is ∙ was.2,
      subst (AreFlags old.rows.threads old.rows.rows old.rows.flags.items) (sym places) was.3,
      was.4 ∙ ap (λ (v : View _). length v.first) (sym is),
      was.5,
    )
