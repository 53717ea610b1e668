use Rattle.std.proofs.Common.{refl, sym, subst, ap}
use Rattle.engine.specs.declared.offers.Offer.TheVariants.{Latch}
use Rattle.engine.specs.States.{IsKnown, NobodyOffers, State}
use Rattle.engine.specs.Tables.{line_at, state_of}
use Rattle.engine.proofs.Kept.{at-within}
use Rattle.engine.proofs.Opening.{closed-waiting, latch-at, latch-closes}
use Rattle.engine.proofs.Sounding.{sound-latch-closed}
use Rattle.engine.proofs.table.Table.close_latch.Goals as goal

pub leave-requires : goal.leave-requires
leave-requires c =
    let mid = c.take.new.self in
    let known = subst (λ (s : State). IsKnown s (Latch c.args.key)) (sym c.in_default.ensures.takes.0) c.requires.known in
    at-within mid.latches.slots.items c.args.key.index c.args.key.generation (latch-at mid.latches.slots.items c.args.key.index c.args.key.generation known.0 known.1).0

pub returns-clause-closes : goal.returns-clause-closes
returns-clause-closes c =
    let mid = c.take.new.self in
    let takes = c.in_default.ensures.takes in
    let known = subst (λ (s : State). IsKnown s (Latch c.args.key)) (sym takes.0) c.requires.known in
    let at = (latch-at mid.latches.slots.items c.args.key.index c.args.key.generation known.0 known.1).0 in (
      latch-closes (state_of c.args.self.now) _ mid.latches.slots.items c.leave.new.self.slots.items c.args.key (sym (ap (λ (s : State). s.latches) takes.0)) refl (ap (λ (s : State). s.channels) takes.0)
          (ap (λ (s : State). s.places) takes.0) (ap (λ (s : State). s.next) takes.0) at c.leave.ensures,
      takes.1,
    )

pub returns-clause-sound : goal.returns-clause-sound
returns-clause-sound c =
    let mid = c.take.new.self in
    let takes = c.in_default.ensures.takes in
    let known = subst (λ (s : State). IsKnown s (Latch c.args.key)) (sym takes.0) c.requires.known in
    let at = (latch-at mid.latches.slots.items c.args.key.index c.args.key.generation known.0 known.1).0 in
    let nobody = subst (λ (s : State). NobodyOffers s (Latch c.args.key)) (sym takes.0) takes.1 in
    sound-latch-closed (state_of mid) _ (line_at mid) _ c.args.key (latch-closes (state_of mid) _ mid.latches.slots.items c.leave.new.self.slots.items c.args.key refl refl refl refl refl at c.leave.ensures) nobody
    (closed-waiting (state_of mid) mid.channels.slots.items mid.latches.slots.items c.leave.new.self.slots.items c.args.key at c.leave.ensures nobody) c.in_default.ensures.sound
