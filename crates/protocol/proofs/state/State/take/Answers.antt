use Rattle.std.proofs.Common.{◌≡◌, ap, sym, subst, ◌∙◌, Some, List, Option, is_some}
use Rattle.protocol_values.specs.declared.Row.{Row}
use Rattle.protocol_values.specs.declared.Joined.{Joined}
use Rattle.protocol_values.specs.declared.Cell.{Cell}
use Rattle.protocol_values.specs.declared.Cell.TheVariants.{Synched, Taken}
use Rattle.protocol_ledger.specs.Tables.{Table, is_row, is_fresh, cell_at, synched_of, names}
use Rattle.protocol_values.specs.Values.{joined_of}
use Rattle.protocol_ledger.specs.Worlds.{World, with_cell, with_table, with_take}
use Rattle.protocol_ledger.specs.Sheets.{table_of}
use Rattle.protocol.specs.States.{world_of, Tells}
use Rattle.protocol_ledger.specs.Kept.{Kept}
use Rattle.protocol_ledger.proofs.Keeping.{kept_took, took, took_world}
use Rattle.protocol_ledger.proofs.Readings.{row_of_open, row_after_cell, joined_ranged}
use Rattle.protocol.proofs.Telling.{tells_plain}
use Rattle.protocol_ledger.proofs.Sheets.{row_there}
use Rattle.protocol.proofs.state.State.take.Goals as goal

pub set_cell-requires-clause-row : goal.set_cell-requires-clause-row
set_cell-requires-clause-row c = row_of_open (world_of c.args.self.now).table c.args.row (ap is_fresh (sym c.in-Synched.ensures))

pub set_cell-requires-clause-words : goal.set_cell-requires-clause-words
set_cell-requires-clause-words c = row_there c.args.self.now.sheet c.args.self.now.whole c.args.row (row_of_open (world_of c.args.self.now).table c.args.row (ap is_fresh (sym c.in-Synched.ensures)))

pub set_cell-requires-clause-range : goal.set_cell-requires-clause-range
set_cell-requires-clause-range c = joined_ranged (world_of c.args.self.now).table c.args.row c.in-Synched.joined (ap joined_of (sym c.in-Synched.ensures))

pub hand-requires : goal.hand-requires
hand-requires c =
    let t = (world_of c.args.self.now).table in
    ap (λ (u : Table). is_row u c.args.row) c.set_cell.ensures.written
    ∙ row_after_cell t c.args.row c.args.row (Taken c.in-Synched.joined)
    ∙ row_of_open t c.args.row (ap is_fresh (sym c.in-Synched.ensures))

pub returns-clause-tried : goal.returns-clause-tried
returns-clause-tried c =
    let w = world_of c.args.self.now in
    let j : Joined = c.in-Synched.joined in
    let is : cell_at w.table c.args.row ≡ Synched j = sym c.in-Synched.ensures in
    let synched : synched_of (cell_at w.table c.args.row) ≡ Some j = ap synched_of is in
    let after = took_world w (world_of c.hand.new.self) c.args.seat c.args.row j (table_of c.set_cell.new.self) (ap table_of c.hand.ensures.sheet) c.set_cell.ensures.written c.hand.ensures.seats c.hand.ensures.holders c.hand.ensures.lasts in (
      ap (λ (o : Option Joined). is_some o) synched,
      after ∙ ap (λ (o : Option Joined). took w c.args.seat c.args.row (with_take w.table c.args.row o)) (sym synched),
    )

pub returns-clause-sound : goal.returns-clause-sound
returns-clause-sound c =
    let w = world_of c.args.self.now in
    let j : Joined = c.in-Synched.joined in
    let is : cell_at w.table c.args.row ≡ Synched j = sym c.in-Synched.ensures in
    let row = row_of_open w.table c.args.row (ap is_fresh is) in
    let after = took_world w (world_of c.hand.new.self) c.args.seat c.args.row j (table_of c.set_cell.new.self) (ap table_of c.hand.ensures.sheet) c.set_cell.ensures.written c.hand.ensures.seats c.hand.ensures.holders c.hand.ensures.lasts in
    let tells : Tells (with_table w (with_cell w.table c.args.row (Taken j))) c.args.self.now.namers.items =
    tells_plain w c.args.row (Taken j) c.args.self.now.namers.items c.requires.kept row (joined_ranged w.table c.args.row j (ap joined_of is)) (λ r. ap (λ (d : Cell). names (joined_of d) r) (sym is)) c.requires.told in
    record {
      kept = subst Kept (sym after) (kept_took w c.args.seat c.args.row j c.requires.kept is);
      told =
          subst (λ (ns : List (Option Row)). Tells (world_of c.hand.new.self) ns) (sym c.hand.ensures.namers)
          (subst (λ (v : World). Tells v c.args.self.now.namers.items) (sym after) tells);
    }
