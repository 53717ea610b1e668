use Rattle.std.proofs.Common.{◌∙◌, set, sym, subst}
use Rattle.engine.specs.declared.offers.Offer.{Offer}
use Rattle.engine.specs.declared.offers.Offer.TheVariants.{Send, Receive, Latch}
use Rattle.engine.specs.Lines.{Pops}
use Rattle.engine.specs.States.{IsKnown}
use Rattle.engine.specs.Tables.{line_at, line_in, state_of}
use Rattle.engine.proofs.Writing.{channel_set, line_set, of-line, receives-written, sends-written, waiting-written, written-state}
use Rattle.engine.proofs.table.Table.take_from_line.Goals as goal

pub returns-in-Send-clause-pops : goal.returns-in-Send-clause-pops
returns-in-Send-clause-pops c =
    let t = c.args.self.now in
    let known = (subst (λ (o : Offer). IsKnown (state_of c.args.self.now) o) c.in-Send.is c.requires) in
    let w = sends-written t.channels.slots.items t.latches.slots.items c.in-Send.key c.index_mut-slot.result.now c.take_live.new.channel known c.index_mut-slot.ensures.value c.take_live.ensures.rest in
    of-line (λ before after. Pops (state_of c.args.self.now).places before after c.take_live.result) (line_at t) (line_in (set t.channels.slots.items c.in-Send.key.index (channel_set c.index_mut-slot.result.now c.take_live.new.channel)) t.latches.slots.items) c.args.theirs (Send c.in-Send.key) _ _ c.in-Send.is w.was w.is c.take_live.ensures.pops

pub returns-in-Send-clause-same : goal.returns-in-Send-clause-same
returns-in-Send-clause-same c =
    let t = c.args.self.now in
    let known = (subst (λ (o : Offer). IsKnown (state_of c.args.self.now) o) c.in-Send.is c.requires) in
    let w = sends-written t.channels.slots.items t.latches.slots.items c.in-Send.key c.index_mut-slot.result.now c.take_live.new.channel known c.index_mut-slot.ensures.value c.take_live.ensures.rest in
    record { state = written-state t _ _ _ _ _ w; lines = λ o ne. w.only_it o (λ e. ne (e ∙ sym c.in-Send.is)) }

pub returns-in-Receive-clause-pops : goal.returns-in-Receive-clause-pops
returns-in-Receive-clause-pops c =
    let t = c.args.self.now in
    let known = (subst (λ (o : Offer). IsKnown (state_of c.args.self.now) o) c.in-Receive.is c.requires) in
    let w = receives-written t.channels.slots.items t.latches.slots.items c.in-Receive.key c.index_mut-slot-in-Receive.result.now c.take_live-in-Receive.new.channel known c.index_mut-slot-in-Receive.ensures.value c.take_live-in-Receive.ensures.rest in
    of-line (λ before after. Pops (state_of c.args.self.now).places before after c.take_live-in-Receive.result) (line_at t) (line_in (set t.channels.slots.items c.in-Receive.key.index (channel_set c.index_mut-slot-in-Receive.result.now c.take_live-in-Receive.new.channel)) t.latches.slots.items) c.args.theirs (Receive c.in-Receive.key) _ _ c.in-Receive.is w.was w.is c.take_live-in-Receive.ensures.pops

pub returns-in-Receive-clause-same : goal.returns-in-Receive-clause-same
returns-in-Receive-clause-same c =
    let t = c.args.self.now in
    let known = (subst (λ (o : Offer). IsKnown (state_of c.args.self.now) o) c.in-Receive.is c.requires) in
    let w = receives-written t.channels.slots.items t.latches.slots.items c.in-Receive.key c.index_mut-slot-in-Receive.result.now c.take_live-in-Receive.new.channel known c.index_mut-slot-in-Receive.ensures.value c.take_live-in-Receive.ensures.rest in
    record { state = written-state t _ _ _ _ _ w; lines = λ o ne. w.only_it o (λ e. ne (e ∙ sym c.in-Receive.is)) }

pub returns-in-Latch-clause-pops : goal.returns-in-Latch-clause-pops
returns-in-Latch-clause-pops c =
    let t = c.args.self.now in
    let known = (subst (λ (o : Offer). IsKnown (state_of c.args.self.now) o) c.in-Latch.is c.requires) in
    let w = waiting-written t.channels.slots.items t.latches.slots.items c.in-Latch.key known.0 c.index_mut-slot-in-Latch.result.now c.take_live-in-Latch.new.channel known.1 c.index_mut-slot-in-Latch.ensures.value in
    of-line (λ before after. Pops (state_of c.args.self.now).places before after c.take_live-in-Latch.result) (line_at t) (line_in t.channels.slots.items (set t.latches.slots.items c.in-Latch.key.index (line_set c.index_mut-slot-in-Latch.result.now c.take_live-in-Latch.new.channel))) c.args.theirs (Latch c.in-Latch.key) _ _ c.in-Latch.is w.was w.is c.take_live-in-Latch.ensures.pops

pub returns-in-Latch-clause-same : goal.returns-in-Latch-clause-same
returns-in-Latch-clause-same c =
    let t = c.args.self.now in
    let known = (subst (λ (o : Offer). IsKnown (state_of c.args.self.now) o) c.in-Latch.is c.requires) in
    let w = waiting-written t.channels.slots.items t.latches.slots.items c.in-Latch.key known.0 c.index_mut-slot-in-Latch.result.now c.take_live-in-Latch.new.channel known.1 c.index_mut-slot-in-Latch.ensures.value in
    record { state = written-state t _ _ _ _ _ w; lines = λ o ne. w.only_it o (λ e. ne (e ∙ sym c.in-Latch.is)) }
