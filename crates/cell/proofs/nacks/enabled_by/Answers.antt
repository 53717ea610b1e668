use Rattle.std.proofs.Common.{rules, ◌≡◌, true, Option, Some, None, IfNone, ap, sym, ◌∙◌, subst}
use Rattle.std.proofs.lemmas.Bool.{true≢false}
use Rattle.protocol_values.specs.declared.Joined.{Joined}
use Rattle.protocol_values.specs.declared.Row.{Row}
use Rattle.protocol_values.specs.Scopes.{has_scope}
use Rattle.protocol_ledger.specs.Tables.{bound_row}
use Rattle.protocol_ledger.proofs.Linking.{some_inj}
use Rattle.cell_table.specs.Nacks.{SawEnabled}
use Rattle.cell_table.specs.Sight.{Has, Learns, SeesOffer}
use Rattle.cell_table.proofs.Offers.{sees_more}
use Rattle.cell.proofs.Learning.{learns_then}
use Rattle.cell.proofs.nacks.enabled_by.Goals as goal
use Rattle.cell.proofs.nacks.enabled_by.Goals.{After-opened_offer}

-- a nack that was seen enabled is found so: the offer that was chosen is the one that was seen
found : (g : _) (c : After-opened_offer g) (j : Joined) (e : SawEnabled c.args.seat.now.me.0.seen c.args.nack j) → (e.binding ≡ c.args.bound) × (c.opened_offer.result ≡ Some e.offer)
found g c j e =
    let same : e.binding ≡ c.args.bound = c.requires.sits.0.3.one_bound c.args.nack e.binding c.args.bound e.bound c.requires.bound in
    let row : bound_row c.args.nack e.binding ≡ bound_row c.args.nack c.args.bound = ap (bound_row c.args.nack) same in
    let joined : c.committed.result ≡ Some c.in_ok-joined.joined = (search rules) in
    let way : j ≡ c.in_ok-joined.joined = some_inj _ _ (sym (c.committed.ensures.same j (subst (λ (r : Row). Has c.args.seat.now.me.0.seen.joined (r, j)) row e.joined)) ∙ joined) in
    let sees = sees_more _ _ _ (bound_row c.args.nack e.binding) j.own e.offer c.committed.ensures.learns e.chosen in
    (same, c.opened_offer.ensures.same e.offer (sees_more _ _ _ _ _ e.offer c.opened_offer.ensures.learns (subst (λ (z : Row × Joined). SeesOffer c.committed.new.seat.me.0.seen z.0 z.1.own e.offer) (λ i. (row i, way i)) sees)))

pub returns-in_err-chosen-clause-none : goal.returns-in_err-chosen-clause-none
returns-in_err-chosen-clause-none g c =
    let none : c.opened_offer.result ≡ None = (search rules) in
    subst (λ (o : Option _). IfNone o ((j : Joined) → ¬ SawEnabled c.args.seat.now.me.0.seen c.args.nack j)) (sym c.from_residual-in_err-chosen.ensures) (λ j e.
    let is = (found g c.before.before.before j e).1 in
    let bad : None ≡ Some e.offer = sym none ∙ is in
    cc)

pub returns-then-has_scope-clause-none : goal.returns-then-has_scope-clause-none
returns-then-has_scope-clause-none g c j e =
    let some : c.opened_offer.result ≡ Some c.in_ok-chosen.chosen = (search rules) in
    let set : has_scope c.in_ok-chosen.chosen.scopes c.args.bound.scope ≡ true = (search rules) in
    let is = found g c.before.before.before.before.before j e in
    let offer : e.offer ≡ c.in_ok-chosen.chosen = some_inj e.offer c.in_ok-chosen.chosen (sym is.1 ∙ some) in
    true≢false (sym set ∙ (λ i. has_scope (sym offer i).scopes (sym is.0 i).scope) ∙ e.outside)

-- the row to which the nack is bound was looked at, and then its offer
learnt : (g : _) (c : After-opened_offer g) → Learns (λ q. q ≡ bound_row c.args.nack c.args.bound) c.args.seat.now.me.0.seen c.opened_offer.new.seat.me.0.seen
learnt g c = learns_then (λ q. q ≡ bound_row c.args.nack c.args.bound) c.args.seat.now.me.0.seen c.committed.new.seat.me.0.seen c.opened_offer.new.seat.me.0.seen c.committed.ensures.learns c.opened_offer.ensures.learns

pub returns-then-has_scope-clause-learns : goal.returns-then-has_scope-clause-learns
returns-then-has_scope-clause-learns g c = learnt g c.before.before.before.before.before

pub returns-clause-learns : goal.returns-clause-learns
returns-clause-learns g c = learnt g c.before.before.before.before.before
