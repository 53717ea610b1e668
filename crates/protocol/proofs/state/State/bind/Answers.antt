use Rattle.std.proofs.Common.{arith, ◌≡◌, ◌<◌, sym, refl}
use Rattle.protocol_values.specs.declared.Cell.TheVariants.{Fresh}
use Rattle.protocol_values.specs.declared.Step.TheVariants.{Bind}
use Rattle.protocol_values.specs.declared.NackWord.TheVariants.{Unbound}
use Rattle.protocol_ledger.specs.Tables.{cell_at, nack_says}
use Rattle.protocol_ledger.specs.Worlds.{Holds, with_nack, nack_of_row}
use Rattle.protocol.specs.States.{world_of}
use Rattle.protocol_ledger.proofs.Keeping.{held_row, kept_condition, nack_of_thread, bind_in_range}
use Rattle.protocol_ledger.proofs.Places.{row_inside}
use Rattle.protocol.proofs.Telling.{tells_bind}
use Rattle.protocol.proofs.Soundness.{sound_state}
use Rattle.protocol.proofs.state.State.bind.Goals as goal

pub overflow_cast-bound : goal.overflow_cast-bound
overflow_cast-bound c =
    let w = world_of c.args.self.now in
    let inside = (row_inside w.table c.args.row (held_row w c.args.row c.args.seat.0 (c.holds.ensures.0 c.if-not-holds.false))).1 in
    let few = c.requires.kept.few_rows in
    omega arith

pub set_nack-requires-clause-nack : goal.set_nack-requires-clause-nack
set_nack-requires-clause-nack c =
    let w = world_of c.args.self.now in
    nack_of_thread w.table c.args.row c.args.k (held_row w c.args.row c.args.seat.0 (c.holds.ensures.0 c.if-not-holds.false)) (let below = c.if-from-ge-NACKS.false in let same = c.from.ensures in omega arith)

pub set_nack-requires-clause-range : goal.set_nack-requires-clause-range
set_nack-requires-clause-range c =
    let w = world_of c.args.self.now in
    bind_in_range w c.args.row c.args.scope c.requires.kept (held_row w c.args.row c.args.seat.0 (c.holds.ensures.0 c.if-not-holds.false)) c.if-scope-ge4.false

pub returns-clause-sound : goal.returns-clause-sound
returns-clause-sound c =
    let w = world_of c.args.self.now in
    let held : Holds w c.args.seat c.args.row = c.holds.ensures.0 c.if-not-holds.false in
    let row = held_row w c.args.row c.args.seat.0 held in
    let was : cell_at w.table c.args.row ≡ Fresh = sym c.in-Fresh.ensures in
    let few : c.args.k < 64 = (let below = c.if-from-ge-NACKS.false in let same = c.from.ensures in omega arith) in
    let inside : c.args.scope < 4 = c.if-scope-ge4.false in
    let free : nack_says w.table (nack_of_row c.args.row c.args.k) ≡ Unbound = sym c.in-Unbound.ensures.value in
    sound_state _ w (with_nack w.table (nack_of_row c.args.row c.args.k) (record { sync = c.args.row.sync; scope = c.args.scope })) c.set_nack.ensures.written refl refl refl
    (kept_condition w c.args.seat (Bind c.args.k c.args.row c.args.scope) c.requires.kept (held, was, c.is_alive.ensures.0 c.if-not-is_alive.false, few, inside, free))
    (tells_bind w (nack_of_row c.args.row c.args.k) (record { sync = c.args.row.sync; scope = c.args.scope }) c.args.self.now.namers.items (nack_of_thread w.table c.args.row c.args.k row few) c.requires.told)
