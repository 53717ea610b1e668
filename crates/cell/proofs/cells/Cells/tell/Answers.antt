use Rattle.std.proofs.Common.{rules, ◌≡◌, ◌++◌, ap, ◌∙◌, sym, subst}
use Rattle.cell.specs.Calls.{PassOf}
use Rattle.cell_table.specs.declared.view.Seen.{Seen}
use Rattle.cell_table.specs.declared.view.View.{View}
use Rattle.cell_table.specs.Sight.{Has, SeesNoOffer, SeesOffer}
use Rattle.cell_table.specs.Rule.{heard, told_of}
use Rattle.cell_table.proofs.Hearing.{told_bound, told_carried, told_lack, told_offer}
use Rattle.cell.proofs.cells.Cells.tell.Goals as goal

pub returns-clause-offers : goal.returns-clause-offers
returns-clause-offers g c r n o sees =
    let told : c.tell.new.to.me.0.seen ≡ heard c.args.to.now.seen (told_of c.args.from.now.seen) = (search rules) in
    subst (λ (s : Seen). SeesOffer s r n o) (sym told) (told_offer c.args.from.now.seen c.args.to.now.seen r n o sees)

pub returns-clause-lacks : goal.returns-clause-lacks
returns-clause-lacks g c r n sees =
    let told : c.tell.new.to.me.0.seen ≡ heard c.args.to.now.seen (told_of c.args.from.now.seen) = (search rules) in
    subst (λ (s : Seen). SeesNoOffer s r n) (sym told) (told_lack c.args.from.now.seen c.args.to.now.seen r n sees)

pub returns-clause-bound : goal.returns-clause-bound
returns-clause-bound g c n b h =
    let told : c.tell.new.to.me.0.seen ≡ heard c.args.to.now.seen (told_of c.args.from.now.seen) = (search rules) in
    subst (λ (s : Seen). Has s.bound (n, b)) (sym told) (told_bound c.args.from.now.seen c.args.to.now.seen n b h)

pub returns-clause-carried : goal.returns-clause-carried
returns-clause-carried g c n stamp h =
    let told : c.tell.new.to.me.0.seen ≡ heard c.args.to.now.seen (told_of c.args.from.now.seen) = (search rules) in
    subst (λ (s : Seen). Has s.carried (n, stamp)) (sym told) (told_carried c.args.from.now.seen c.args.to.now.seen n stamp h)

pub returns-clause-results : goal.returns-clause-results
returns-clause-results g c =
    let from = ap (λ (p : PassOf g.row.M.Denot). p.results) c.from.view_is in
    let to = ap (λ (p : PassOf g.row.M.Denot). p.results) c.to.view_is in (
      ap (λ (v : View _). v.results) c.tell.ensures.from ∙ from,
      ap (λ (v : View _). v.results) c.tell.ensures.to ∙ (λ i. to i ++ from i),
    )
