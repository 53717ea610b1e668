use Rattle.std.proofs.Common.{rules, Some, List, Option, length, ◌≡◌, ◌∙◌, get_or, get_or-set_other, sym, subst, ap, arith, false, true}
use mathlib.Core.Option.{some}
use lib.ListN.{get_elem?}
use Rattle.std.specs.Slots.{slots_filled, slots_items, slots_len}
use Rattle.cell_table.specs.Closings.{IsHomeOf}
use Rattle.cell_table.proofs.Handing.{emptied_more, filled_more, handed_more, slot_inside}
use Rattle.cell_table.proofs.closing.take_home.Goals as goal

pub loop-at-preserved : goal.loop-at-preserved
loop-at-preserved g c =
    let others = c.take-value.ensures.others in
    let items = others.0 in (
      (λ k high low. subst (λ xs. get_or xs k false ≡ true) (sym others.1)
          (get_or-set_other (slots_filled c.loop-at.closed.slots) c.loop-at.at k false false (λ e. omega arith) ∙ c.loop-at.invariant.0 k (omega arith) (omega (arith, others.2)))),
      (λ k below. subst (λ xs. get_or xs k false ≡ false) (sym others.1) (emptied_more (slots_filled c.loop-at.closed.slots) c.loop-at.at c.loop-at.invariant.1 k below)),
      (search rules),
      (search rules),
      handed_more (λ t v. IsHomeOf c.args.shape.now c.args.words.now (slots_items c.take-value.new.self.slots) t v) c.loop-at.places.items c.loop-at.at c.at_home.result (search rules)
          (λ t v e. subst (λ xs. IsHomeOf c.args.shape.now c.args.words.now xs t v) (sym items) (c.loop-at.invariant.4 t v e))
          (λ v e. let h = c.at_home.ensures.home v e in (ap (λ xs. get_elem? xs c.loop-at.at) items ∙ c.take-value.ensures.value ∙ ap some h.0, h.1)),
      filled_more (λ t v. IsHomeOf c.args.shape.now c.args.words.now (slots_items c.take-value.new.self.slots) t v) c.loop-at.places.items c.loop-at.at c.at_home.result (search rules)
          (λ t v below home. c.loop-at.invariant.5 t v below (subst (λ xs. IsHomeOf c.args.shape.now c.args.words.now xs t v) items home))
          (λ v home. c.at_home.ensures.all home.1.0 home.1.1 ∙ mathlib.Core.Option.some-injective c.take-value.result (Some v) (sym c.take-value.ensures.value ∙ ap (λ xs. get_elem? xs c.loop-at.at) (sym items) ∙ home.0)),
    )

-- all slots have been looked at
pub returns-clause-all : goal.returns-clause-all
returns-clause-all g c t value home =
    let here : IsHomeOf c.args.shape.now c.args.words.now (slots_items c.loop-at.closed.slots) t value = subst (λ (xs : List (Option g.row.M.Denot)). IsHomeOf c.args.shape.now c.args.words.now xs t value) (sym c.loop-at.invariant.2) home in
    let size : length (slots_items c.loop-at.closed.slots) ≡ slots_len c.loop-at.closed.slots = (search rules) in
    let inside = slot_inside (slots_items c.loop-at.closed.slots) t (Some value) here.0 in
    c.loop-at.invariant.5 t value (omega (arith, inside, size)) here
