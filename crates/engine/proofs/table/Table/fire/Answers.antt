use Rattle.std.proofs.Common.{◌∙◌, true, sym, subst, ap}
use Rattle.engine.specs.declared.offers.Offer.TheVariants.{Latch}
use Rattle.engine.specs.Calls.{with_latch}
use Rattle.engine.specs.States.{IsKnown, NobodyOffers, State}
use Rattle.engine.specs.Tables.{line_at, state_of}
use Rattle.engine.proofs.Sounding.{sound-latch}
use Rattle.engine.proofs.table.Table.fire.Goals as goal

pub set_fired-requires : goal.set_fired-requires
set_fired-requires c = subst (λ (s : State). IsKnown s (Latch c.args.latch)) (sym c.in-None.ensures.takes.0) c.requires.known

pub returns-in-None-clause-sound : goal.returns-in-None-clause-sound
returns-in-None-clause-sound c =
    let takes = c.in-None.ensures.takes in
    let known = subst (λ (s : State). IsKnown s (Latch c.args.latch)) (sym takes.0) c.requires.known in
    sound-latch (state_of c.take.new.self) (state_of c.set_fired.new.self) (line_at c.take.new.self) (line_at c.set_fired.new.self) c.args.latch known.0 true known.1
    (λ e. subst (λ (s : State). NobodyOffers s (Latch c.args.latch)) (sym takes.0) takes.1) c.set_fired.ensures.state c.set_fired.ensures.lines c.in-None.ensures.sound

pub returns-in-None-clause-fires : goal.returns-in-None-clause-fires
returns-in-None-clause-fires c =
    (c.set_fired.ensures.state ∙ ap (λ (s : State). with_latch s c.args.latch true) c.in-None.ensures.takes.0, c.in-None.ensures.takes.1)
