use Rattle.std.proofs.Common.{◌≡◌, ap, sym, refl}
use Rattle.protocol_values.specs.declared.Cell.TheVariants.{Waiting, Claimed}
use Rattle.protocol_values.specs.declared.Step.TheVariants.{Claim}
use Rattle.protocol_values.specs.declared.Cell.{Cell}
use Rattle.protocol_ledger.specs.Tables.{names, cell_at}
use Rattle.protocol_values.specs.Values.{joined_of}
use Rattle.protocol_ledger.specs.Worlds.{Holds, with_cell}
use Rattle.protocol.specs.States.{world_of}
use Rattle.protocol_ledger.proofs.Keeping.{held_row, kept_condition}
use Rattle.protocol.proofs.Telling.{tells_plain}
use Rattle.protocol.proofs.Soundness.{sound_state}
use Rattle.protocol_ledger.proofs.Sheets.{row_there}
use Rattle.protocol.proofs.state.State.claim.Goals as goal

pub set_cell-requires-clause-row : goal.set_cell-requires-clause-row
set_cell-requires-clause-row c = held_row (world_of c.args.self.now) c.args.row c.args.seat.0 (c.holds.ensures.0 c.if-not-holds.false)

pub set_cell-requires-clause-words : goal.set_cell-requires-clause-words
set_cell-requires-clause-words c = row_there c.args.self.now.sheet c.args.self.now.whole c.args.row (held_row (world_of c.args.self.now) c.args.row c.args.seat.0 (c.holds.ensures.0 c.if-not-holds.false))

pub returns-clause-sound : goal.returns-clause-sound
returns-clause-sound c =
    let w = world_of c.args.self.now in
    let held : Holds w c.args.seat c.args.row = c.holds.ensures.0 c.if-not-holds.false in
    let was : cell_at w.table c.args.row ≡ Waiting = sym c.in-Waiting.ensures in
    sound_state _ w (with_cell w.table c.args.row Claimed) c.set_cell.ensures.written refl refl refl
    (kept_condition w c.args.seat (Claim c.args.row) c.requires.kept (held, was))
    (tells_plain w c.args.row Claimed c.args.self.now.namers.items c.requires.kept (held_row w c.args.row c.args.seat.0 held) tt (λ r. ap (λ (d : Cell). names (joined_of d) r) (sym was)) c.requires.told)
