use Rattle.std.proofs.Common.{◌∙◌, set, sym, subst}
use Rattle.std.specs.Prelude.{OnErr, OnOk}
use Rattle.engine.specs.declared.offers.Offer.{Offer}
use Rattle.engine.specs.declared.offers.Offer.TheVariants.{Send, Receive, Latch}
use Rattle.engine.specs.Lines.{Adds, Sifts}
use Rattle.engine.specs.States.{IsKnown}
use Rattle.engine.specs.Tables.{line_at, line_in, state_of}
use Rattle.engine.proofs.Writing.{channel_set, line_set, of-line, receives-written, sends-written, waiting-written, written-state}
use Rattle.engine.proofs.table.Table.stand_in_line.Goals as goal

pub returns-in-Send-clause-ok : goal.returns-in-Send-clause-ok
returns-in-Send-clause-ok c =
    let t = c.args.self.now in
    let known = (subst (λ (o : Offer). IsKnown (state_of c.args.self.now) o) c.in-Send.is c.requires.known) in
    let w = sends-written t.channels.slots.items t.latches.slots.items c.in-Send.key c.index_mut-slot.result.now c.stand.new.channel known c.index_mut-slot.ensures.value c.stand.ensures.rest in
    of-line (λ before after. OnOk c.stand.result (Adds (state_of c.args.self.now).places before after c.args.waiting)) (line_at t) (line_in (set t.channels.slots.items c.in-Send.key.index (channel_set c.index_mut-slot.result.now c.stand.new.channel)) t.latches.slots.items) c.args.offer (Send c.in-Send.key) _ _ c.in-Send.is w.was w.is c.stand.ensures.ok

pub returns-in-Send-clause-err : goal.returns-in-Send-clause-err
returns-in-Send-clause-err c =
    let t = c.args.self.now in
    let known = (subst (λ (o : Offer). IsKnown (state_of c.args.self.now) o) c.in-Send.is c.requires.known) in
    let w = sends-written t.channels.slots.items t.latches.slots.items c.in-Send.key c.index_mut-slot.result.now c.stand.new.channel known c.index_mut-slot.ensures.value c.stand.ensures.rest in
    of-line (λ before after. OnErr c.stand.result (Sifts (state_of c.args.self.now).places before after)) (line_at t) (line_in (set t.channels.slots.items c.in-Send.key.index (channel_set c.index_mut-slot.result.now c.stand.new.channel)) t.latches.slots.items) c.args.offer (Send c.in-Send.key) _ _ c.in-Send.is w.was w.is c.stand.ensures.err

pub returns-in-Send-clause-same : goal.returns-in-Send-clause-same
returns-in-Send-clause-same c =
    let t = c.args.self.now in
    let known = (subst (λ (o : Offer). IsKnown (state_of c.args.self.now) o) c.in-Send.is c.requires.known) in
    let w = sends-written t.channels.slots.items t.latches.slots.items c.in-Send.key c.index_mut-slot.result.now c.stand.new.channel known c.index_mut-slot.ensures.value c.stand.ensures.rest in
    record { state = written-state t _ _ _ _ _ w; lines = λ o ne. w.only_it o (λ e. ne (e ∙ sym c.in-Send.is)) }

pub returns-in-Receive-clause-ok : goal.returns-in-Receive-clause-ok
returns-in-Receive-clause-ok c =
    let t = c.args.self.now in
    let known = (subst (λ (o : Offer). IsKnown (state_of c.args.self.now) o) c.in-Receive.is c.requires.known) in
    let w = receives-written t.channels.slots.items t.latches.slots.items c.in-Receive.key c.index_mut-slot-in-Receive.result.now c.stand-in-Receive.new.channel known c.index_mut-slot-in-Receive.ensures.value c.stand-in-Receive.ensures.rest in
    of-line (λ before after. OnOk c.stand-in-Receive.result (Adds (state_of c.args.self.now).places before after c.args.waiting)) (line_at t) (line_in (set t.channels.slots.items c.in-Receive.key.index (channel_set c.index_mut-slot-in-Receive.result.now c.stand-in-Receive.new.channel)) t.latches.slots.items) c.args.offer (Receive c.in-Receive.key) _ _ c.in-Receive.is w.was w.is c.stand-in-Receive.ensures.ok

pub returns-in-Receive-clause-err : goal.returns-in-Receive-clause-err
returns-in-Receive-clause-err c =
    let t = c.args.self.now in
    let known = (subst (λ (o : Offer). IsKnown (state_of c.args.self.now) o) c.in-Receive.is c.requires.known) in
    let w = receives-written t.channels.slots.items t.latches.slots.items c.in-Receive.key c.index_mut-slot-in-Receive.result.now c.stand-in-Receive.new.channel known c.index_mut-slot-in-Receive.ensures.value c.stand-in-Receive.ensures.rest in
    of-line (λ before after. OnErr c.stand-in-Receive.result (Sifts (state_of c.args.self.now).places before after)) (line_at t) (line_in (set t.channels.slots.items c.in-Receive.key.index (channel_set c.index_mut-slot-in-Receive.result.now c.stand-in-Receive.new.channel)) t.latches.slots.items) c.args.offer (Receive c.in-Receive.key) _ _ c.in-Receive.is w.was w.is c.stand-in-Receive.ensures.err

pub returns-in-Receive-clause-same : goal.returns-in-Receive-clause-same
returns-in-Receive-clause-same c =
    let t = c.args.self.now in
    let known = (subst (λ (o : Offer). IsKnown (state_of c.args.self.now) o) c.in-Receive.is c.requires.known) in
    let w = receives-written t.channels.slots.items t.latches.slots.items c.in-Receive.key c.index_mut-slot-in-Receive.result.now c.stand-in-Receive.new.channel known c.index_mut-slot-in-Receive.ensures.value c.stand-in-Receive.ensures.rest in
    record { state = written-state t _ _ _ _ _ w; lines = λ o ne. w.only_it o (λ e. ne (e ∙ sym c.in-Receive.is)) }

pub returns-in-Latch-clause-ok : goal.returns-in-Latch-clause-ok
returns-in-Latch-clause-ok c =
    let t = c.args.self.now in
    let known = (subst (λ (o : Offer). IsKnown (state_of c.args.self.now) o) c.in-Latch.is c.requires.known) in
    let w = waiting-written t.channels.slots.items t.latches.slots.items c.in-Latch.key known.0 c.index_mut-slot-in-Latch.result.now c.stand-in-Latch.new.channel known.1 c.index_mut-slot-in-Latch.ensures.value in
    of-line (λ before after. OnOk c.stand-in-Latch.result (Adds (state_of c.args.self.now).places before after c.args.waiting)) (line_at t) (line_in t.channels.slots.items (set t.latches.slots.items c.in-Latch.key.index (line_set c.index_mut-slot-in-Latch.result.now c.stand-in-Latch.new.channel))) c.args.offer (Latch c.in-Latch.key) _ _ c.in-Latch.is w.was w.is c.stand-in-Latch.ensures.ok

pub returns-in-Latch-clause-err : goal.returns-in-Latch-clause-err
returns-in-Latch-clause-err c =
    let t = c.args.self.now in
    let known = (subst (λ (o : Offer). IsKnown (state_of c.args.self.now) o) c.in-Latch.is c.requires.known) in
    let w = waiting-written t.channels.slots.items t.latches.slots.items c.in-Latch.key known.0 c.index_mut-slot-in-Latch.result.now c.stand-in-Latch.new.channel known.1 c.index_mut-slot-in-Latch.ensures.value in
    of-line (λ before after. OnErr c.stand-in-Latch.result (Sifts (state_of c.args.self.now).places before after)) (line_at t) (line_in t.channels.slots.items (set t.latches.slots.items c.in-Latch.key.index (line_set c.index_mut-slot-in-Latch.result.now c.stand-in-Latch.new.channel))) c.args.offer (Latch c.in-Latch.key) _ _ c.in-Latch.is w.was w.is c.stand-in-Latch.ensures.err

pub returns-in-Latch-clause-same : goal.returns-in-Latch-clause-same
returns-in-Latch-clause-same c =
    let t = c.args.self.now in
    let known = (subst (λ (o : Offer). IsKnown (state_of c.args.self.now) o) c.in-Latch.is c.requires.known) in
    let w = waiting-written t.channels.slots.items t.latches.slots.items c.in-Latch.key known.0 c.index_mut-slot-in-Latch.result.now c.stand-in-Latch.new.channel known.1 c.index_mut-slot-in-Latch.ensures.value in
    record { state = written-state t _ _ _ _ _ w; lines = λ o ne. w.only_it o (λ e. ne (e ∙ sym c.in-Latch.is)) }
