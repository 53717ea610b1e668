use Rattle.engine.specs.Tables.{line_at, state_of}
use Rattle.engine.proofs.Promises.{promise-leaves}
use Rattle.engine.proofs.Sounding.{left-state}
use Rattle.engine.proofs.Tabling.{leaves-sync, sound-left}
use Rattle.engine.proofs.table.Table.withdraw.Goals as goal

pub returns-clause-withdraws : goal.returns-clause-withdraws
returns-clause-withdraws c =
    let waits = c.if-not-waits.ensures in
    leaves-sync (state_of c.args.self.now) _ c.args.sync waits.0 waits.1 (left-state c.args.self.now c.leave.new.self.slots.items c.args.sync.index c.leave.ensures)

pub returns-clause-sound : goal.returns-clause-sound
returns-clause-sound c =
    sound-left (state_of c.args.self.now) _ (line_at c.args.self.now) c.args.sync.index (promise-leaves (state_of c.args.self.now) _ c.args.sync (returns-clause-withdraws c) c.requires.promise)
    (left-state c.args.self.now c.leave.new.self.slots.items c.args.sync.index c.leave.ensures) c.requires
