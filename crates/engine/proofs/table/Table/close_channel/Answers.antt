use Rattle.std.proofs.Common.{◌∙◌, refl, sym, subst, ap}
use Rattle.engine.specs.declared.offers.Offer.TheVariants.{Send, Receive}
use Rattle.engine.specs.States.{IsOpen, NobodyOffers, State}
use Rattle.engine.specs.Tables.{line_at, state_of}
use Rattle.engine.proofs.Kept.{at-within}
use Rattle.engine.proofs.Opening.{channel-closes, closed-lines, open-at}
use Rattle.engine.proofs.Sounding.{sound-channel-closed}
use Rattle.engine.proofs.table.Table.close_channel.Goals as goal

pub leave-requires : goal.leave-requires
leave-requires c =
    let mid = c.take-2.new.self in
    let known = subst (λ (s : State). IsOpen s c.args.key) (sym (c.in_default-take.ensures.takes.0 ∙ c.in_default.ensures.takes.0)) c.requires.known in
    at-within mid.channels.slots.items c.args.key.index c.args.key.generation (open-at mid.channels.slots.items c.args.key.index c.args.key.generation known)

pub returns-clause-closes : goal.returns-clause-closes
returns-clause-closes c =
    let mid = c.take-2.new.self in
    let first = c.in_default.ensures.takes in
    let second = c.in_default-take.ensures.takes in
    let same = second.0 ∙ first.0 in
    let known = subst (λ (s : State). IsOpen s c.args.key) (sym same) c.requires.known in
    let at = open-at mid.channels.slots.items c.args.key.index c.args.key.generation known in (
      channel-closes (state_of c.args.self.now) _ mid.channels.slots.items c.leave.new.self.slots.items c.args.key (sym (ap (λ (s : State). s.channels) same)) refl (ap (λ (s : State). s.latches) same)
          (ap (λ (s : State). s.places) same) (ap (λ (s : State). s.next) same) at c.leave.ensures,
      first.1,
      subst (λ (s : State). NobodyOffers s (Receive c.args.key)) first.0 second.1,
    )

pub returns-clause-sound : goal.returns-clause-sound
returns-clause-sound c =
    let mid = c.take-2.new.self in
    let first = c.in_default.ensures.takes in
    let second = c.in_default-take.ensures.takes in
    let same = second.0 ∙ first.0 in
    let known = subst (λ (s : State). IsOpen s c.args.key) (sym same) c.requires.known in
    let at = open-at mid.channels.slots.items c.args.key.index c.args.key.generation known in
    let sends = subst (λ (s : State). NobodyOffers s (Send c.args.key)) (sym same) first.1 in
    let receives = subst (λ (s : State). NobodyOffers s (Receive c.args.key)) (sym second.0) second.1 in
    sound-channel-closed (state_of mid) _ (line_at mid) _ c.args.key (channel-closes (state_of mid) _ mid.channels.slots.items c.leave.new.self.slots.items c.args.key refl refl refl refl refl at c.leave.ensures) sends receives
    (closed-lines (state_of mid) mid.channels.slots.items c.leave.new.self.slots.items mid.latches.slots.items c.args.key at c.leave.ensures sends receives) c.in_default-take.ensures.sound
