use Rattle.std.proofs.Common.{◌≡◌, ℕ, Option, Some, is_some, ap, sym, subst, refl, ◌∙◌}
use Rattle.protocol_values.specs.declared.Joined.{Joined}
use Rattle.protocol_values.specs.declared.Offer.{Offer}
use Rattle.protocol_values.specs.declared.Cell.TheVariants.{Waiting, Synched}
use Rattle.protocol_values.specs.declared.Step.TheVariants.{Grant}
use Rattle.protocol_values.specs.Words.{IsJoinedInRange}
use Rattle.protocol_ledger.specs.Tables.{Table, is_fresh, cell_at, joined_at, marks_at, offer_at, cause_of, cause_at}
use Rattle.protocol_values.specs.declared.Row.{Row}
use Rattle.protocol_ledger.specs.Worlds.{with_cell, granted_by}
use Rattle.protocol_ledger.specs.Sheets.{table_of}
use Rattle.protocol.specs.States.{world_of}
use Rattle.protocol_ledger.proofs.Keeping.{kept_condition, grant_in_range, waits_unjoined}
use Rattle.protocol_ledger.proofs.Readings.{row_of_open}
use Rattle.protocol.proofs.Telling.{tells_grant}
use Rattle.protocol.proofs.Soundness.{sound_state}
use Rattle.protocol_ledger.proofs.Sheets.{row_there}
use Rattle.protocol.proofs.state.State.grant.Goals as goal

-- the cause of the offer that was read
caused : (t : Table) (r : Row) (n : ℕ) (o : Option Offer) (s : ℕ) → o ≡ offer_at t r n → Some s ≡ cause_of (joined_at t) (offer_at t) (marks_at t) o → cause_at t r n ≡ Some s
caused t r n o s e h = ap (cause_of (joined_at t) (offer_at t) (marks_at t)) (sym e) ∙ sym h

pub granted_by-joined-requires-clause-cause : goal.granted_by-joined-requires-clause-cause
granted_by-joined-requires-clause-cause c = caused (table_of c.args.self.now.sheet) c.args.row c.args.offer c.offer.result c.in-Some.cause c.offer.ensures c.in-Some.ensures

pub set_cell-requires-clause-row : goal.set_cell-requires-clause-row
set_cell-requires-clause-row c = row_of_open (world_of c.args.self.now).table c.args.row (ap is_fresh (sym c.in-Waiting.ensures))

pub set_cell-requires-clause-words : goal.set_cell-requires-clause-words
set_cell-requires-clause-words c = row_there c.args.self.now.sheet c.args.self.now.whole c.args.row (row_of_open (world_of c.args.self.now).table c.args.row (ap is_fresh (sym c.in-Waiting.ensures)))

pub set_cell-requires-clause-range : goal.set_cell-requires-clause-range
set_cell-requires-clause-range c =
    let w = world_of c.args.self.now in
    let has = caused w.table c.args.row c.args.offer c.offer.result c.in-Some.cause c.offer.ensures c.in-Some.ensures in
    subst IsJoinedInRange (sym c.granted_by-joined.ensures) (grant_in_range w c.args.row c.args.offer c.in-Some.cause c.requires.kept (waits_unjoined w c.args.row (sym c.in-Waiting.ensures)) has)

pub returns-clause-sound : goal.returns-clause-sound
returns-clause-sound c =
    let w = world_of c.args.self.now in
    let joined : Joined = granted_by w.table c.args.row c.args.offer in
    let waits : cell_at w.table c.args.row ≡ Waiting = sym c.in-Waiting.ensures in
    let has = caused w.table c.args.row c.args.offer c.offer.result c.in-Some.cause c.offer.ensures c.in-Some.ensures in
    let written : table_of c.set_cell.new.self ≡ with_cell w.table c.args.row (Synched joined) =
    c.set_cell.ensures.written ∙ ap (λ (j : Joined). with_cell w.table c.args.row (Synched j)) c.granted_by-joined.ensures in
    sound_state _ w (with_cell w.table c.args.row (Synched joined)) written refl refl refl
    (kept_condition w c.args.seat (Grant c.args.row c.args.offer) c.requires.kept (waits, ap (λ (o : Option ℕ). is_some o) has))
    (tells_grant w c.args.row c.args.offer c.in-Some.cause c.args.self.now.namers.items c.requires.kept waits has c.requires.told)
