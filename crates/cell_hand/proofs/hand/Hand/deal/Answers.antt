use Rattle.std.proofs.Common.{◌≡◌, ◌∙◌, ap, subst, sym}
use Rattle.std.specs.Prelude.{slice_index_or}
use Rattle.std.proofs.lemmas.Option.{slice_get-get_or}
use Rattle.cell.specs.Calls.{Grid, IsPassOf}
use Rattle.cell_hand.specs.declared.hand.Table.{Table}
use Rattle.cell_hand.proofs.Sharing.{dealt, ok_then}
use Rattle.cell_hand.proofs.hand.Hand.deal.Goals as goal

pub share-requires-clause-here : goal.share-requires-clause-here
share-requires-clause-here c k d h =
    subst (λ (t : Table). IsPassOf t.cells (slice_index_or c.in-Ok.passes.items k d)) (sym c.in-Ok-new-2.ensures.ok) (c.in-Ok.ensures.passes k (slice_index_or c.in-Ok.passes.items k d) (slice_get-get_or c.in-Ok.passes.items k d h)).0

pub returns-clause-dealt : goal.returns-clause-dealt
returns-clause-dealt c =
    let size = c.in-Ok.ensures.size in
    let table = c.in-Ok-new-2.table.value.cells in
    let same : table ≡ c.in-Ok.cells = ap (λ (t : Table). t.cells) c.in-Ok-new-2.ensures.ok in
    ok_then c.share.result
    (λ hands are.
    dealt c.args.threads c.args.rows c.args.offers c.args.later c.args.passes table c.in-Ok.passes.items (ap (λ (g : Grid). g.threads) same ∙ size.0) (ap (λ (g : Grid). g.rows) same ∙ size.1)
    (ap (λ (g : Grid). g.layout.offers) same ∙ c.in-Ok.ensures.room) (ap (λ (g : Grid). g.passes) same ∙ size.2) (λ number p e. let new = c.in-Ok.ensures.passes number p e in (new.1, new.2)) hands.items are)
    c.share.ensures.hands
