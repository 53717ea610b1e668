use Rattle.std.proofs.Common.{Box, Global, List, ap, map, sym, ◌++◌, ◌∙◌, ◌∷◌}
use Rattle.std.specs.Vec.Iter.{into_iter_items}
use Rattle.cell_hand.specs.Hands.{HandOf}
use Rattle.cell_hand.specs.declared.kept.Kept.{Kept}
use Rattle.cell_hand.specs.declared.kept.Kept.TheVariants.{Hand}
use Rattle.cell_hand.proofs.Sharing.{one_more}
use Rattle.pcml_cells.proofs.tables.boxes_of.Goals as goal

pub loop-hand-preserved : goal.loop-hand-preserved
loop-hand-preserved c =
    let v : Box Kept Global → Kept = λ b. b.value in
    let boxes = c.loop-hand.boxes.items in
    let left : List Kept = map Hand (into_iter_items c.next.new.self) in (
      tt,
      tt,
      ap (λ (bs : List (Box Kept Global)). map v bs ++ left) c.in_ok-push.ensures.items ∙ one_more v boxes c.in-Ok.kept left ∙ ap (λ (k : Kept). map v boxes ++ k ∷ left) c.in-Ok.ensures.ok
          ∙ ap (λ (hs : List HandOf). map v boxes ++ map Hand hs) (sym c.in-Some.ensures.steps.0) ∙ c.loop-hand.invariant.2,
    )
