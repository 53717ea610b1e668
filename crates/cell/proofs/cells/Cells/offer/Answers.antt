use Rattle.std.proofs.Common.{◌≡◌, ℕ, subst}
use Rattle.std.specs.Prelude.{IfNone}
use Rattle.protocol_values.specs.declared.NackName.{NackName}
use Rattle.protocol_values.specs.declared.Row.{Row}
use Rattle.cell.specs.Calls.{PassOf}
use Rattle.cell_table.specs.Sight.{IsKnownOpen, LackOffer, LearnsOf}
use Rattle.cell.proofs.cells.Cells.offer.Goals as goal

pub returns-clause-same : goal.returns-clause-same
returns-clause-same g c o sees = c.offer_of.ensures.same o sees

pub returns-clause-learns : goal.returns-clause-learns
returns-clause-learns g c =
    subst (λ (p : PassOf g.row.M.Denot). LearnsOf (λ (q : Row). q ≡ c.args.row) (λ (n : NackName). ⊥) (λ (t : ℕ). ⊥) p.seen c.offer_of.new.seat.me.0.seen) c.pass.view_is c.offer_of.ensures.learns

pub returns-clause-none : goal.returns-clause-none
returns-clause-none g c =
    subst (λ (p : PassOf g.row.M.Denot). IfNone c.offer_of.result (IsKnownOpen p.seen c.args.row → LackOffer c.offer_of.new.seat.me.0.seen.words c.args.row c.args.n)) c.pass.view_is c.offer_of.ensures.none
