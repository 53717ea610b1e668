use Rattle.std.proofs.Common.{◌≡◌, ◌+◌, ◌<◌, ◌≤◌, ◌∙◌, ℕ, arith, List, Option, ap, length, subst, sym}
use Rattle.protocol_ledger.specs.Openings.{state_in, word_for}
use Rattle.protocol_ledger.specs.Tables.{carried_by}
use Rattle.protocol_values.specs.declared.Step.{Step}
use Rattle.cell.specs.Calls.{GathererOf, GridOf, HasSteps, opening_at}
use Rattle.cell_table.specs.Closings.{HandedOut}
use Rattle.cell_table.specs.Sight.{Has, IsDraft, SeesNoOffer, SeesOffer}
use Rattle.cell.proofs.cells.Cells.close_with.Goals as goal

pub returns-clause-own : goal.returns-clause-own
returns-clause-own g c r j offers draft e = c.close.ensures.own r j offers (subst (λ (p : GathererOf g.row.M.Denot). IsDraft p.pass.seen r offers) (sym c.by.view_is) draft) e

pub returns-clause-offers : goal.returns-clause-offers
returns-clause-offers g c r n o sees = c.close.ensures.offers r n o (subst (λ (p : GathererOf g.row.M.Denot). SeesOffer p.pass.seen r n o) (sym c.by.view_is) sees)

pub returns-clause-lacks : goal.returns-clause-lacks
returns-clause-lacks g c r n sees = c.close.ensures.lacks r n (subst (λ (p : GathererOf g.row.M.Denot). SeesNoOffer p.pass.seen r n) (sym c.by.view_is) sees)

pub returns-clause-results : goal.returns-clause-results
returns-clause-results g c t rs h = c.close.ensures.results t rs (subst (λ (p : GathererOf g.row.M.Denot). Has p.pass.results (t, rs)) (sym c.by.view_is) h)

pub returns-clause-machines : goal.returns-clause-machines
returns-clause-machines g c housed t value h =
    let is = ap (λ (grid : GridOf g.row.M.Denot). grid.first) c.self.view_is in
    subst (λ (first : List (Option g.row.M.Denot)). HandedOut g.M.Resident.stands first c.close.result.0 t value) is (c.close.ensures.machines (subst (λ (first : List (Option g.row.M.Denot)). 0 < length first) (sym is) housed) t value h)

pub returns-clause-seen : goal.returns-clause-seen
returns-clause-seen g c r j h = c.close.ensures.seen r j (subst (λ (p : GathererOf g.row.M.Denot). Has p.pass.seen.joined (r, j)) (sym c.by.view_is) h)

pub returns-clause-bound : goal.returns-clause-bound
returns-clause-bound g c n b h = c.close.ensures.bound n b (subst (λ (p : GathererOf g.row.M.Denot). Has p.pass.seen.bound (n, b)) (sym c.by.view_is) h)

pub returns-clause-outside : goal.returns-clause-outside
returns-clause-outside g c t above = c.close.ensures.outside t (subst (λ (grid : GridOf g.row.M.Denot). grid.threads ≤ t) (sym c.self.view_is) above)

pub returns-clause-carried : goal.returns-clause-carried
returns-clause-carried g c n there =
    c.close.ensures.carried n (subst (λ (grid : GridOf g.row.M.Denot). n.thread < grid.threads) (sym c.self.view_is) there.0) there.1
    ∙ ap (λ (grid : GridOf g.row.M.Denot). carried_by (word_for (state_in (opening_at grid) n))) c.self.view_is

-- where as many passes are here as the table has
here_too : (n passes of : ℕ) (a b : List (ℕ × List Step)) → a ≡ b → passes ≡ of → of ≡ n → n ≤ length b + 1 → passes ≤ length a + 1
here_too n passes of a b same is all few = let size : length a ≡ length b = ap (λ (l : List (ℕ × List Step)). length l) same in omega (arith, size, is, all, few)

pub returns-clause-opened : goal.returns-clause-opened
returns-clause-opened g c all r n o offers =
    let few = here_too c.args.self.passes _ c.args.by.pass.of.passes _ _ (ap (λ (p : GathererOf g.row.M.Denot). p.gathered) c.by.view_is) (ap (λ (p : GathererOf g.row.M.Denot). p.pass.of.passes) c.by.view_is) c.requires.here.3 all in
    let one = c.close.ensures.opened (c.by.invariant.0, few) r n o offers in
    (one.0, subst (λ (p : GathererOf g.row.M.Denot). HasSteps p one.0) c.by.view_is one.1, one.2)

pub returns-clause-handed : goal.returns-clause-handed
returns-clause-handed g c housed all r steps made opens untook =
    let is = ap (λ (grid : GridOf g.row.M.Denot). grid.first) c.self.view_is in
    let few = here_too c.args.self.passes _ c.args.by.pass.of.passes _ _ (ap (λ (p : GathererOf g.row.M.Denot). p.gathered) c.by.view_is) (ap (λ (p : GathererOf g.row.M.Denot). p.pass.of.passes) c.by.view_is) c.requires.here.3 all in
    c.close.ensures.handed (subst (λ (first : List (Option g.row.M.Denot)). 0 < length first) (sym is) housed) (c.by.invariant.0, few) r steps
    (subst (λ (p : GathererOf g.row.M.Denot). HasSteps p steps) (sym c.by.view_is) made) opens
    (λ others others_made took. untook others (subst (λ (p : GathererOf g.row.M.Denot). HasSteps p others) c.by.view_is others_made) took)

pub returns-clause-waiting : goal.returns-clause-waiting
returns-clause-waiting g c housed =
    let is = ap (λ (grid : GridOf g.row.M.Denot). grid.first) c.self.view_is in
    c.close.ensures.waiting (subst (λ (first : List (Option g.row.M.Denot)). 0 < length first) (sym is) housed)
