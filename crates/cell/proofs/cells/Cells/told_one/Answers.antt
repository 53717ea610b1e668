use Rattle.std.proofs.Common.{◌≡◌, ◌∙◌, ◌∷◌, [], ◌++◌, List, Some, ap, subst, sym}
use Rattle.std.proofs.lemmas.List.Elements.{All-append, All-pop}
use Rattle.std.specs.Prelude.{All}
use Rattle.std.specs.Vec.Iter.{into_iter_items}
use Rattle.cell_table.specs.Rule.{told_of}
use Rattle.cell.specs.Calls.{IsPassOf, PassOf}
use Rattle.cell.specs.Hearing.{HasGathered, HasHeard}
use Rattle.cell_table.specs.declared.view.Seen.{Seen}
use Rattle.cell_table.specs.Sight.{Has, SeesNoOffer, SeesOffer}
use Rattle.cell_table.proofs.Hearing.{told_bound, told_lack, told_offer}
use Rattle.cell.proofs.Gathering.{gathers_first, gathers_next}
use Rattle.cell.proofs.Hearing.{heard_through, kept, told}
use Rattle.cell.proofs.Lists.{all_head, all_is, all_one, all_rest}
use Rattle.cell.proofs.cells.Cells.told_one.Goals as goal

pub loop-pass-init : goal.loop-pass-init
loop-pass-init g c =
    let P = λ (p : PassOf g.row.M.Denot). IsPassOf c.args.self.now p in
    let first = c.into_gatherer-told.result in
    let others = c.pop.new.self.items in
    let same : first.pass ≡ c.in-Some.last = c.into_gatherer-told.ensures in
    let is : c.args.passes.items ≡ others ++ first.pass ∷ [] = c.in-Some.ensures.items ∙ ap (λ (p : PassOf g.row.M.Denot). others ++ p ∷ []) (sym same) in
    let popped = All-pop P c.args.passes.items others (Some first.pass) is c.requires.here in
    let goes = c.into_iter-pass-iterator.ensures.into_iter_gives.0 in (
      tt,
      tt,
      popped.1,
      all_is P _ _ (sym goes) popped.0,
      λ (p : PassOf g.row.M.Denot) (more : HasHeard first.pass p) (rest : All (λ (q : PassOf g.row.M.Denot). HasHeard q p) (into_iter_items c.into_iter-pass-iterator.result)).
          all_is (λ (q : PassOf g.row.M.Denot). HasHeard q p) (others ++ first.pass ∷ []) _ (sym is)
          (All-append (λ (q : PassOf g.row.M.Denot). HasHeard q p) others (first.pass ∷ []) (all_is (λ (q : PassOf g.row.M.Denot). HasHeard q p) _ _ goes rest) (all_one (λ (q : PassOf g.row.M.Denot). HasHeard q p) first.pass more)),
      subst (λ (l : List (PassOf g.row.M.Denot)). HasGathered c.args.passes.items l first) (sym goes) (gathers_first c.args.passes.items others first is),
    )

pub leave-requires : goal.leave-requires
leave-requires g c =
    let P = λ (p : PassOf g.row.M.Denot). IsPassOf c.args.self.now p in
    record { here = (all_head P c.in-Some-pass.pass (into_iter_items c.next.new.self) (all_is P _ _ c.in-Some-pass.ensures.steps.0 c.loop-pass.invariant.3), c.loop-pass.invariant.2) }

pub loop-pass-preserved : goal.loop-pass-preserved
loop-pass-preserved g c =
    let P = λ (p : PassOf g.row.M.Denot). IsPassOf c.args.self.now p in
    let from = c.in-Some-pass.pass in
    let to = c.loop-pass.told in
    let new = c.leave.new.to in
    let left = into_iter_items c.next.new.self in
    let says = c.leave.ensures in (
      tt,
      tt,
      says.here,
      all_rest P from left (all_is P _ _ c.in-Some-pass.ensures.steps.0 c.loop-pass.invariant.3),
      λ (p : PassOf g.row.M.Denot) (more : HasHeard new.pass p) (rest : All (λ (q : PassOf g.row.M.Denot). HasHeard q p) left).
          let one = heard_through from new.pass p (told from to.pass new.pass says.told says.results (λ r n o h. subst (λ (s : Seen). SeesOffer s r n o) (sym says.told) (told_offer from.seen to.pass.seen r n o h)) (λ r n h. subst (λ (s : Seen). SeesNoOffer s r n) (sym says.told) (told_lack from.seen to.pass.seen r n h)) (λ n b h. subst (λ (s : Seen). Has s.bound (n, b)) (sym says.told) (told_bound from.seen to.pass.seen n b h))) more in
          c.loop-pass.invariant.4 p (heard_through to.pass new.pass p (kept to.pass new.pass (told_of from.seen) from.results says.told says.results) more)
          (all_is (λ (q : PassOf g.row.M.Denot). HasHeard q p) (from ∷ left) _ (sym c.in-Some-pass.ensures.steps.0)
          (All-append (λ (q : PassOf g.row.M.Denot). HasHeard q p) (from ∷ []) left (all_one (λ (q : PassOf g.row.M.Denot). HasHeard q p) from one) rest)),
      gathers_next c.args.passes.items left from to new says.gathered.0
          (subst (λ (l : List (PassOf g.row.M.Denot)). HasGathered c.args.passes.items l to) c.in-Some-pass.ensures.steps.0 c.loop-pass.invariant.5)
          says.made says.gathered.1,
    )
