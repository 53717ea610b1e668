use Rattle.std.proofs.Common.{sym, subst, ◌↔◌, inl, inr}
use Rattle.std.specs.Prelude.{IsTrue}
use Rattle.engine.specs.declared.offers.Offer.{Offer}
use Rattle.engine.specs.States.{IsKnown}
use Rattle.engine.specs.Tables.{state_of}
use Rattle.engine.proofs.Sounding.{known-channel, known-latch}
use Rattle.engine.proofs.table.Table.is_known.Goals as goal

pub returns-in-Latch : goal.returns-in-Latch
returns-in-Latch c =
    subst (λ (o : Offer). IsTrue c.holds.result ↔ IsKnown (state_of c.args.self.now) o) (sym c.in-Latch.is) (known-latch c.args.self.now.latches.slots.items c.in-Latch.key c.holds.result c.holds.ensures)

pub returns-in-Send : goal.returns-in-Send
returns-in-Send c =
    let known = known-channel c.args.self.now.channels.slots.items c.in-Send.key c.holds-in-Send.result c.holds-in-Send.ensures in
    elim c.in-Send.is [
      | inl e ↦ subst (λ (o : Offer). IsTrue c.holds-in-Send.result ↔ IsKnown (state_of c.args.self.now) o) (sym e) known
      | inr e ↦ subst (λ (o : Offer). IsTrue c.holds-in-Send.result ↔ IsKnown (state_of c.args.self.now) o) (sym e) known
    ]
