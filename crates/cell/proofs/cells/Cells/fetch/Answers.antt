use Rattle.std.proofs.Common.{rules, ◌≡◌, ◌+◌, ◌∙◌, length, sym, subst, ap}
use Rattle.cell_table.specs.declared.view.View.{View}
use Rattle.cell_table.specs.declared.view.Stage.TheVariants.{Resting}
use Rattle.cell_table.specs.Seats.{Sits}
use Rattle.cell.specs.declared.cells.Pass.TheInside.{Inside}
use Rattle.cell.specs.Calls.{HoldNothing}
use Rattle.cell.specs.Flags.{AreFlags, places_of}
use Rattle.cell.proofs.cells.Cells.fetch.Goals as goal
use Rattle.cell.proofs.cells.Cells.fetch.Goals.{then-row-eq0, else-row-eq0}

-- what a pass is at rest
abbrev IsAtRest : {M : Type 0} → Inside M → Type 0
IsAtRest z = (z.seat.me.0.stage ≡ Resting) × (z.seat.me.0.threads ≡ z.rows.threads) × (z.seat.me.0.rows + 1 ≡ z.rows.rows) × AreFlags z.rows.threads z.rows.rows z.rows.flags.items (places_of z.seat.me.0.rows z.seat.me.0.seen) × (length z.places.items ≡ length z.seat.me.0.first) × HoldNothing z.places.items

-- what is taken out of its slot, and what is begun with, changes no place at which the pass stands
pub invariant_of-pass : goal.invariant_of-pass
invariant_of-pass g c =
    let old = c.pass.inside in
    let was = c.pass.invariant in
    let inv : IsAtRest c.if-row-eq0.pass-inside = elim c.if-row-eq0.branch [
      | then-row-eq0 w ↦
          let is = w.begin.ensures.began in
          subst (λ z. IsAtRest z) (sym w.pass-inside-is) (
            ap (λ (v : View _). v.stage) is ∙ was.0,
            ap (λ (v : View _). v.threads) is ∙ was.1,
            ap (λ (v : View _). v.rows + 1) is ∙ was.2,
            subst (λ (v : View _). AreFlags old.rows.threads old.rows.rows old.rows.flags.items (places_of v.rows v.seen)) (sym is) was.3,
            was.4 ∙ ap (λ (v : View _). length v.first) (sym is),
            was.5,
          )
      | else-row-eq0 w ↦ subst (λ z. IsAtRest z) (sym w.pass-inside-is) was
    ] in
    let now = c.if-row-eq0.pass-inside in
    let same = c.lift.ensures.same in (
      ap (λ (v : View _). v.stage) same ∙ inv.0,
      ap (λ (v : View _). v.threads) same ∙ inv.1,
      ap (λ (v : View _). v.rows + 1) same ∙ inv.2,
      subst (λ (v : View _). AreFlags now.rows.threads now.rows.rows now.rows.flags.items (places_of v.rows v.seen)) (sym same) inv.3,
      inv.4 ∙ ap (λ (v : View _). length v.first) (sym same),
      inv.5,
    )

-- and still sits at its table
pub lift-requires-clause-sits : goal.lift-requires-clause-sits
lift-requires-clause-sits g c = elim c.if-row-eq0.branch [
  | then-row-eq0 w ↦ subst (λ z. Sits c.self.inside.board z.seat) (sym w.pass-inside-is) w.begin.ensures.sits.1
  | else-row-eq0 w ↦ subst (λ z. Sits c.self.inside.board z.seat) (sym w.pass-inside-is) (search rules)
]
