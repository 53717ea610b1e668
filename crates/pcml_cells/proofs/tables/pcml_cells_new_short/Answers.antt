use Rattle.std.proofs.Common.{Box, Global, Some, arith, length, slice_get, subst, sym, ◌<◌, ◌∙◌, ◌≡◌, ℕ, ⊎_elim}
use Rattle.std.proofs.lemmas.Option.{slice_get_cases, slice_get_within}
use Rattle.cell_hand.specs.Calls.{IsDealt}
use Rattle.cell_hand.specs.Hands.{HandOf}
use Rattle.cell_hand.specs.declared.kept.Kept.{Kept}
use Rattle.cell_hand.specs.declared.kept.Kept.TheVariants.{Hand}
use Rattle.pcml_cells.proofs.Filling.{kept_hand}
use Rattle.pcml_cells.proofs.tables.pcml_cells_new_short.Goals as goal

pub returns-clause-dealt : goal.returns-clause-dealt
returns-clause-dealt c z n place e =
    let v : Box Kept Global → Kept = λ b. b.value in
    let hands = c.in-Ok.hands.items in
    let now = c.keep_all.new.passes in
    let size : length hands ≡ length now = c.in-Ok.ensures.count ∙ sym c.keep_all.ensures.count in
    let low : n < length now = slice_get_within now n place e in
    ⊎_elim
    (λ (found : (h : HandOf) × (n < length hands) × (slice_get hands n ≡ Some h) × _). let h = found.0 in (
      h,
      c.keep_all.ensures.kept n place e ∙ kept_hand v Hand c.in-Ok-boxes_of.boxes.items hands n h c.in-Ok-boxes_of.ensures found.2,
      subst (λ (m : ℕ). IsDealt c.args.threads c.args.rows c.args.offers c.args.later m n h) (sym c.keep_all.ensures.count) (c.in-Ok.ensures.dealt n h found.2),
    ))
    (λ past. let high = past.0 in absurd (omega (arith, low, size, high)))
    (slice_get_cases hands n).1
