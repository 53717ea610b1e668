use Rattle.std.proofs.Common.{◌∙◌, refl, subst, sym}
use Rattle.std.specs.Prelude.{Ok, Some}
use Rattle.cell.proofs.Learning.{learns_look}
use Rattle.cell_table.specs.declared.view.Seen.{Seen}
use Rattle.cell_table.specs.Sight.{Has}
use Rattle.meet_scan.specs.Searches.{Grows}
use Rattle.meet_scan.proofs.Growing.{grows_by, grows_then}
use Rattle.cell_hand.specs.Hands.{HandOf}
use Rattle.cell_hand.specs.Calls.{Answers}
use Rattle.cell_hand.specs.contracts.hand.Hand.{the_view}
use Rattle.cell_hand.proofs.Looking.{joined_seen}
use Rattle.cell_hand.proofs.hand.Hand.answer.Goals as goal

pub returns : goal.returns
returns c =
    let s = c.self.inside.pass.seen in
    let t = c.look.new.pass.seen in
    let u = c.result.new.pass.seen in
    let j = c.in-Some.joined in
    let first : Grows s t = subst (λ (x : Seen). Grows s x) (sym c.look.ensures.saw) (grows_by _ _ s _ (learns_look c.args.row c.look.result s)) in
    let last : Grows t u = grows_by _ _ t u c.result.ensures.learns in
    let seen : Has t.joined (c.args.row, j) =
    subst (λ (x : Seen). Has x.joined (c.args.row, j)) (sym c.look.ensures.saw) (joined_seen c.args.row c.look.result j s (sym c.joined.ensures ∙ c.in-Some.is)) in
    subst (λ (h : HandOf). Answers h (the_view (record { table = c.self.inside.table; pass = c.result.new.pass; scan = c.self.inside.scan })) c.args.row (Ok (Some (j, c.in-Some-result.message))))
    c.self.view_is (
      ((refl, refl, refl), grows_then s t u first last, (c.result.ensures.made ∙ c.look.ensures.made, (c.result.ensures.results.0 ∙ c.look.ensures.results.0, c.result.ensures.results.1 ∙ c.look.ensures.results.1))),
      last.joined.0 (c.args.row, j) seen,
      c.in-Some-result.ensures.some,
    )
