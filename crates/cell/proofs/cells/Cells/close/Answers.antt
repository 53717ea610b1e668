use Rattle.std.proofs.Common.{subst, sym}
use Rattle.cell.specs.Calls.{IsPassOf, PassOf}
use Rattle.cell_table.specs.Sight.{Has, IsDraft, SeesNoOffer, SeesOffer}
use Rattle.cell.proofs.cells.Cells.close.Goals as goal

-- the pass that gathers is the one that was given
pub close_with-requires : goal.close_with-requires
close_with-requires g c = record { here = subst (λ (p : PassOf g.row.M.Denot). IsPassOf c.args.self p) (sym c.into_gatherer.ensures) c.requires.here }

pub returns-clause-started : goal.returns-clause-started
returns-clause-started g c t stamp h = c.close_with.ensures.started t stamp (subst (λ (p : PassOf g.row.M.Denot). Has p.seen.started (t, stamp)) (sym c.into_gatherer.ensures) h)

pub returns-clause-ended : goal.returns-clause-ended
returns-clause-ended g c t n h = c.close_with.ensures.ended t n (subst (λ (p : PassOf g.row.M.Denot). Has p.seen.ended (t, n)) (sym c.into_gatherer.ensures) h)

pub returns-clause-seen : goal.returns-clause-seen
returns-clause-seen g c r j h = c.close_with.ensures.seen r j (subst (λ (p : PassOf g.row.M.Denot). Has p.seen.joined (r, j)) (sym c.into_gatherer.ensures) h)

pub returns-clause-offers : goal.returns-clause-offers
returns-clause-offers g c r n o h = c.close_with.ensures.offers r n o (subst (λ (p : PassOf g.row.M.Denot). SeesOffer p.seen r n o) (sym c.into_gatherer.ensures) h)

pub returns-clause-lacks : goal.returns-clause-lacks
returns-clause-lacks g c r n h = c.close_with.ensures.lacks r n (subst (λ (p : PassOf g.row.M.Denot). SeesNoOffer p.seen r n) (sym c.into_gatherer.ensures) h)

pub returns-clause-bound : goal.returns-clause-bound
returns-clause-bound g c n b h = c.close_with.ensures.bound n b (subst (λ (p : PassOf g.row.M.Denot). Has p.seen.bound (n, b)) (sym c.into_gatherer.ensures) h)

pub returns-clause-results : goal.returns-clause-results
returns-clause-results g c t rs h = c.close_with.ensures.results t rs (subst (λ (p : PassOf g.row.M.Denot). Has p.results (t, rs)) (sym c.into_gatherer.ensures) h)

pub returns-clause-own : goal.returns-clause-own
returns-clause-own g c r j offers draft e = c.close_with.ensures.own r j offers (subst (λ (p : PassOf g.row.M.Denot). IsDraft p.seen r offers) (sym c.into_gatherer.ensures) draft) e
