use Rattle.std.proofs.Common.{◌≡◌, ℕ, None, Some, is_some, set, Option, ap, sym, subst, refl, ◌∙◌}
use Rattle.protocol_values.specs.declared.Row.{Row}
use Rattle.protocol_values.specs.declared.Joined.{Joined}
use Rattle.protocol_values.specs.declared.Cell.TheVariants.{Claimed, Synched}
use Rattle.protocol_values.specs.declared.Step.TheVariants.{Seal}
use Rattle.protocol_values.specs.Words.{IsJoinedInRange}
use Rattle.protocol_ledger.specs.Tables.{cell_at, all_rows, joined_at}
use Rattle.protocol_ledger.specs.Worlds.{World, Holds, with_cell, with_table, with_seal, sealed_by, namer_at, side_of, mirrored}
use Rattle.protocol_ledger.specs.Sheets.{table_of}
use Rattle.protocol.specs.States.{world_of, Tells}
use Rattle.protocol_ledger.proofs.Linking.{some_inj, fresh_not_joined}
use Rattle.protocol_ledger.specs.Kept.{Kept}
use Rattle.protocol_ledger.proofs.Keeping.{held_row, kept_condition, IsSealing, sealing, sealed_is, seal_in_range}
use Rattle.protocol_ledger.proofs.Naming.{namer_names}
use Rattle.protocol_ledger.proofs.Readings.{row_of_open}
use Rattle.protocol.proofs.Telling.{tells_seal}
use Rattle.protocol.proofs.Soundness.{sound_state}
use Rattle.protocol_ledger.proofs.Sheets.{row_there}
use Rattle.protocol.proofs.state.State.seal.Goals as goal

pub namer-requires-clause-row : goal.namer-requires-clause-row
namer-requires-clause-row c = held_row (world_of c.args.self.now) c.args.row c.args.seat.0 (c.holds.ensures.0 c.if-not-holds.false)

-- what the row that names this one says
sealing_of : (w : World) (row other : Row) → Some other ≡ namer_at w row → IsSealing w.table row other
sealing_of w row other e = sealing w.table row other (namer_names (all_rows w.table.threads w.table.rows) (joined_at w.table) row other (sym e))

side_is : (w : World) (row other : Row) (e : Some other ≡ namer_at w row) → side_of other (joined_at w.table other) ≡ Some (mirrored other (sealing_of w row other e).way (sealing_of w row other e).offer)
side_is w row other e = sealed_is w.table row other (Some other) (sealing_of w row other e) refl

pub returns-in_default-side_of-clause-tried : goal.returns-in_default-side_of-clause-tried
returns-in_default-side_of-clause-tried c =
    let w = world_of c.args.self.now in
    let is = side_is w c.args.row c.in-Some.other c.in-Some.ensures in
    let s = sealing_of w c.args.row c.in-Some.other c.in-Some.ensures in
    let bad : ◌≡◌ {A = Option Joined} None (Some (mirrored c.in-Some.other s.way s.offer)) =
    c.in_default-side_of.ensures ∙ ap (side_of c.in-Some.other) c.joined.ensures ∙ is in
    (λ a. cc, refl)

pub number-at-requires : goal.number-at-requires
number-at-requires c =
    let w = world_of c.args.self.now in
    let s = sealing_of w c.args.row c.in-Some.other c.in-Some.ensures in
    row_of_open w.table c.in-Some.other (fresh_not_joined (cell_at w.table c.in-Some.other) s.way s.is)

pub set_cell-requires-clause-row : goal.set_cell-requires-clause-row
set_cell-requires-clause-row c = held_row (world_of c.args.self.now) c.args.row c.args.seat.0 (c.holds.ensures.0 c.if-not-holds.false)

pub set_cell-requires-clause-words : goal.set_cell-requires-clause-words
set_cell-requires-clause-words c = row_there c.args.self.now.sheet c.args.self.now.whole c.args.row (held_row (world_of c.args.self.now) c.args.row c.args.seat.0 (c.holds.ensures.0 c.if-not-holds.false))

joined_is : (w : World) (row other : Row) (e : Some other ≡ namer_at w row) (j k : Option Joined) (v : Joined) → Some v ≡ side_of other j → j ≡ joined_at w.table other → v ≡ mirrored other (sealing_of w row other e).way (sealing_of w row other e).offer
joined_is w row other e j k v a b = some_inj v _ (a ∙ ap (side_of other) b ∙ side_is w row other e)

pub set_cell-requires-clause-range : goal.set_cell-requires-clause-range
set_cell-requires-clause-range c =
    let w = world_of c.args.self.now in
    let s = sealing_of w c.args.row c.in-Some.other c.in-Some.ensures in
    let is = joined_is w c.args.row c.in-Some.other c.in-Some.ensures c.joined.result None c.in-Some-side_of.joined c.in-Some-side_of.ensures c.joined.ensures in
    subst IsJoinedInRange (sym is) (seal_in_range w c.args.row c.in-Some.other s c.requires.kept)

pub returns-clause-sound : goal.returns-clause-sound
returns-clause-sound c =
    let w = world_of c.args.self.now in
    let other : Row = c.in-Some.other in
    let s = sealing_of w c.args.row other c.in-Some.ensures in
    let joined : Joined = mirrored other s.way s.offer in
    let is = joined_is w c.args.row other c.in-Some.ensures c.joined.result None c.in-Some-side_of.joined c.in-Some-side_of.ensures c.joined.ensures in
    let held : Holds w c.args.seat c.args.row = c.holds.ensures.0 c.if-not-holds.false in
    let claimed : cell_at w.table c.args.row ≡ Claimed = sym c.in-Claimed.ensures in
    let written : table_of c.set_cell.new.self ≡ with_cell w.table c.args.row (Synched joined) =
    c.set_cell.ensures.written ∙ ap (λ (j : Joined). with_cell w.table c.args.row (Synched j)) is in
    let kept : Kept (with_table w (with_seal w.table c.args.row (sealed_by w.table (namer_at w c.args.row)))) =
    kept_condition w c.args.seat (Seal c.args.row) c.requires.kept (held, claimed, ap (λ (o : Option Row). is_some o) (sym c.in-Some.ensures)) in
    sound_state _ w (with_cell w.table c.args.row (Synched joined)) written refl refl refl
    (subst (λ (o : Option Joined). Kept (with_table w (with_seal w.table c.args.row o))) (sealed_is w.table c.args.row other (namer_at w c.args.row) s (sym c.in-Some.ensures)) kept)
    (subst (λ (n : ℕ). Tells (with_table w (with_cell w.table c.args.row (Synched joined))) (set c.args.self.now.namers.items n (Some c.args.row)))
    (sym c.number-at.ensures.value)
    (tells_seal w c.args.row other s c.args.self.now.namers.items c.requires.kept claimed c.args.self.now.named c.requires.told))
