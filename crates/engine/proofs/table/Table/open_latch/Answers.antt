use Rattle.std.proofs.Common.{refl, arith}
use Rattle.engine.specs.Tables.{state_of}
use Rattle.engine.proofs.Opening.{latch-opens, opened-waiting}
use Rattle.engine.proofs.Sounding.{sound-latch-opened}
use Rattle.engine.proofs.table.Table.open_latch.Goals as goal

pub returns-clause-ok : goal.returns-clause-ok
returns-clause-ok c =
    let next = c.in-Some.ensures in
    latch-opens _ _ c.args.self.now.latches.slots.items c.open.new.self.slots.items _ c.new.result refl refl refl refl (omega arith) refl c.new.ensures.fired c.in_ok-index.ensures.ok

pub returns-clause-sound : goal.returns-clause-sound
returns-clause-sound c =
    let t = c.args.self.now in
    sound-latch-opened (state_of t) _ _ _ _ (returns-clause-ok c)
    (opened-waiting (state_of t) t.channels.slots.items t.latches.slots.items c.open.new.self.slots.items _ c.new.result c.new.ensures.line refl c.in_ok-index.ensures.ok c.requires.promise)
    c.requires
