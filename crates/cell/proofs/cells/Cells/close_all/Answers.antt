use Rattle.std.proofs.Common.{List, subst, sym}
use Rattle.protocol_values.specs.declared.Step.{Step}
use Rattle.protocol_values.specs.declared.Step.TheVariants.{Open, Take}
use Rattle.cell_table.specs.Sight.{Has}
use Rattle.cell.proofs.Gathering.{all_gathered, contains_has, has_contains, has_steps, of_one}
use Rattle.cell.specs.Calls.{PassOf}
use Rattle.cell.specs.Hearing.{HasHeard}
use Rattle.cell.proofs.Lists.{all_at}
use Rattle.cell.proofs.cells.Cells.close_all.Goals as goal

-- what a pass of the list has seen, the one that was told has seen
pub returns-clause-started : goal.returns-clause-started
returns-clause-started g c p t stamp has h =
    let heard = all_at (λ (q : PassOf g.row.M.Denot). HasHeard q c.told_one-told.result.pass) c.args.passes.items p c.told_one-told.ensures.told has in
    c.close_with.ensures.started t stamp (heard.started t stamp h)

pub returns-clause-ended : goal.returns-clause-ended
returns-clause-ended g c p t n has h =
    let heard = all_at (λ (q : PassOf g.row.M.Denot). HasHeard q c.told_one-told.result.pass) c.args.passes.items p c.told_one-told.ensures.told has in
    c.close_with.ensures.ended t n (heard.ended t n h)

pub returns-clause-seen : goal.returns-clause-seen
returns-clause-seen g c p r j has h =
    let heard = all_at (λ (q : PassOf g.row.M.Denot). HasHeard q c.told_one-told.result.pass) c.args.passes.items p c.told_one-told.ensures.told has in
    c.close_with.ensures.seen r j (heard.joined r j h)

pub returns-clause-offers : goal.returns-clause-offers
returns-clause-offers g c p r n o has h =
    let heard = all_at (λ (q : PassOf g.row.M.Denot). HasHeard q c.told_one-told.result.pass) c.args.passes.items p c.told_one-told.ensures.told has in
    c.close_with.ensures.offers r n o (heard.offers r n o h)

pub returns-clause-lacks : goal.returns-clause-lacks
returns-clause-lacks g c p r n has h =
    let heard = all_at (λ (q : PassOf g.row.M.Denot). HasHeard q c.told_one-told.result.pass) c.args.passes.items p c.told_one-told.ensures.told has in
    c.close_with.ensures.lacks r n (heard.lacks r n h)

pub returns-clause-bound : goal.returns-clause-bound
returns-clause-bound g c p n b has h =
    let heard = all_at (λ (q : PassOf g.row.M.Denot). HasHeard q c.told_one-told.result.pass) c.args.passes.items p c.told_one-told.ensures.told has in
    c.close_with.ensures.bound n b (heard.bound n b h)

pub returns-clause-results : goal.returns-clause-results
returns-clause-results g c p t rs has h =
    let heard = all_at (λ (q : PassOf g.row.M.Denot). HasHeard q c.told_one-told.result.pass) c.args.passes.items p c.told_one-told.ensures.told has in
    c.close_with.ensures.results t rs (heard.results t rs h)

-- all passes are here, so one of them made each step
pub returns-clause-opened : goal.returns-clause-opened
returns-clause-opened g c all r n o offers =
    let gathered = c.told_one-told.ensures.gathered in
    let made = c.close_with.ensures.opened (all_gathered c.args.passes.items c.told_one-told.result c.args.self.passes gathered c.close_with.ensures.few all) r n o offers in
    let one = of_one c.args.passes.items c.told_one-told.result c.args.self.passes gathered c.close_with.ensures.few all made.0 made.1 in
    (one.0, has_contains c.args.passes.items one.0 one.1, subst (λ (l : List Step). Has l (Open r)) (sym one.2) made.2)

pub returns-clause-handed : goal.returns-clause-handed
returns-clause-handed g c housed all p r has opens untook =
    let gathered = c.told_one-told.ensures.gathered in
    c.close_with.ensures.handed housed (all_gathered c.args.passes.items c.told_one-told.result c.args.self.passes gathered c.close_with.ensures.few all) r p.made
    (has_steps c.args.passes.items c.told_one-told.result c.args.self.passes gathered c.close_with.ensures.few all p (contains_has c.args.passes.items p has)) opens
    (λ others made took.
    let one = of_one c.args.passes.items c.told_one-told.result c.args.self.passes gathered c.close_with.ensures.few all others made in
    untook one.0 (has_contains c.args.passes.items one.0 one.1) (subst (λ (l : List Step). Has l (Take r)) (sym one.2) took))
