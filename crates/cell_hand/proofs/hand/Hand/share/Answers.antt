use Rattle.std.proofs.Common.{◌≡◌, ◌++◌, ◌∙◌, ◌∷◌, [], List, ap, sym}
use Rattle.std.proofs.lemmas.List.Elements.{All-append}
use Rattle.std.specs.Vec.Iter.{into_iter_items}
use Rattle.cell.specs.Calls.{IsPassOf, PassView}
use Rattle.cell.proofs.Lists.{all_is, all_one, all_rest}
use Rattle.cell_hand.specs.Hands.{HandOf}
use Rattle.cell_hand.proofs.Sharing.{one_more, passes_of}
use Rattle.cell_hand.proofs.hand.Hand.share.Goals as goal

pub loop-pass-preserved : goal.loop-pass-preserved
loop-pass-preserved c =
    let cells = c.args.table.now.value.cells in
    let hands = c.loop-pass.hands.items in
    let hand = c.in_ok-hand.hand in
    let left = into_iter_items c.next.new.self in
    let pushed = c.in-Ok.ensures.items in
    let steps = c.in-Some.ensures.steps.0 in
    let At = λ (h : HandOf). h.table ≡ cells in
    let P = λ (p : PassView). IsPassOf cells p in (
      tt,
      tt,
      ap (λ (hs : List HandOf). passes_of hs ++ left) pushed ∙ one_more (λ (h : HandOf). h.pass) hands hand left ∙ ap (λ (p : PassView). passes_of hands ++ p ∷ left) c.in_ok-hand.ensures.hand.1
          ∙ ap (λ (ps : List PassView). passes_of hands ++ ps) (sym steps) ∙ c.loop-pass.invariant.2,
      all_is At _ _ (sym pushed) (All-append At hands (hand ∷ []) c.loop-pass.invariant.3 (all_one At hand c.in_ok-hand.ensures.hand.0)),
      all_rest P c.in-Some.pass left (all_is P _ _ steps c.loop-pass.invariant.4),
      c.in_ok-hand.ensures.sits,
      c.requires.sits.1,
    )
