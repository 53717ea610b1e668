use Rattle.std.proofs.Common.{refl, arith, ap}
use Rattle.channels.specs.States.{State as Channel}
use Rattle.engine.specs.Tables.{state_of}
use Rattle.engine.proofs.Opening.{channel-opens, opened-lines}
use Rattle.engine.proofs.Sounding.{sound-channel-opened}
use Rattle.engine.proofs.table.Table.open_channel.Goals as goal

pub returns-clause-ok : goal.returns-clause-ok
returns-clause-ok c =
    let next = c.in-Some.ensures in
    channel-opens _ _ c.args.self.now.channels.slots.items c.open.new.self.slots.items _ c.new.result refl refl refl refl (omega arith) refl c.in_ok-index.ensures.ok

pub returns-clause-sound : goal.returns-clause-sound
returns-clause-sound c =
    let t = c.args.self.now in
    sound-channel-opened (state_of t) _ _ _ _ (returns-clause-ok c)
    (opened-lines (state_of t) t.channels.slots.items c.open.new.self.slots.items t.latches.slots.items _ c.new.result (ap (λ (s : Channel). s.sends) c.new.ensures) (ap (λ (s : Channel). s.receives) c.new.ensures) refl
    c.in_ok-index.ensures.ok c.requires.promise)
    c.requires
