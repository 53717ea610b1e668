use Rattle.std.proofs.Common.{List, Option, ap}
use Rattle.engine.specs.States.{LatchState, State}
use Rattle.engine.specs.Tables.{state_of}
use Rattle.engine.proofs.Sounding.{set-latch, set-latch-lines}
use Rattle.engine.proofs.table.Table.set_fired.Goals as goal

pub returns-clause-state : goal.returns-clause-state
returns-clause-state c =
    let t = c.args.self.now in
    let make : List (Option LatchState) → State = λ l. record { channels = (state_of t).channels; latches = l; places = (state_of t).places; next = t.next } in
    ap make (set-latch t.latches.slots.items c.args.latch c.requires.0 c.args.fired c.index_mut.result.now c.requires.1 c.index_mut.ensures.value)

pub returns-clause-lines : goal.returns-clause-lines
returns-clause-lines c =
    let t = c.args.self.now in
    set-latch-lines t.channels.slots.items t.latches.slots.items c.args.latch c.requires.0 c.args.fired c.index_mut.result.now c.requires.1 c.index_mut.ensures.value
