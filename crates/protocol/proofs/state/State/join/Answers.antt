use Rattle.std.proofs.Common.{◌≡◌, ◌≢◌, ℕ, true, None, Some, set, ap, sym, subst, refl, ◌∙◌}
use Rattle.protocol_values.specs.declared.Joined.{Joined}
use Rattle.protocol_values.specs.declared.Cell.TheVariants.{Waiting, Claimed, Synched}
use Rattle.protocol_values.specs.declared.Step.TheVariants.{Join}
use Rattle.protocol_values.specs.Words.{IsJoinedInRange}
use Rattle.protocol_ledger.specs.Tables.{is_fresh, cell_at, offer_at, offers_meet}
use Rattle.protocol_ledger.specs.Worlds.{Holds, with_cell, with_table, namer_at, joined_with}
use Rattle.protocol_ledger.specs.Sheets.{table_of}
use Rattle.protocol.specs.States.{world_of, Tells}
use Rattle.protocol_ledger.proofs.Linking.{none_from}
use Rattle.protocol_ledger.proofs.Keeping.{held_row, kept_condition, join_in_range, waits_unjoined}
use Rattle.protocol_ledger.proofs.Readings.{row_of_open}
use Rattle.protocol.proofs.Telling.{tells_join}
use Rattle.protocol.proofs.Soundness.{sound_state}
use Rattle.protocol_ledger.proofs.Sheets.{row_there}
use Rattle.protocol.proofs.state.State.join.Goals as goal

pub namer-requires-clause-row : goal.namer-requires-clause-row
namer-requires-clause-row c = held_row (world_of c.args.self.now) c.args.mine c.args.seat.0 (c.holds.ensures.0 c.if-not-holds.false)

pub number-at-requires : goal.number-at-requires
number-at-requires c = held_row (world_of c.args.self.now) c.args.mine c.args.seat.0 (c.holds.ensures.0 c.if-not-holds.false)

pub set_cell-requires-clause-row : goal.set_cell-requires-clause-row
set_cell-requires-clause-row c = row_of_open (world_of c.args.self.now).table c.args.other (ap is_fresh (sym c.in-Waiting.ensures))

pub set_cell-requires-clause-words : goal.set_cell-requires-clause-words
set_cell-requires-clause-words c = row_there c.args.self.now.sheet c.args.self.now.whole c.args.other (row_of_open (world_of c.args.self.now).table c.args.other (ap is_fresh (sym c.in-Waiting.ensures)))

pub set_cell-requires-clause-range : goal.set_cell-requires-clause-range
set_cell-requires-clause-range c =
    let w = world_of c.args.self.now in
    let held = held_row w c.args.mine c.args.seat.0 (c.holds.ensures.0 c.if-not-holds.false) in
    let meets : offers_meet (offer_at w.table c.args.mine c.args.own) (offer_at w.table c.args.other c.args.partner) ≡ true =
    (λ i. offers_meet (sym c.offer.ensures i) (sym c.offer-2.ensures i)) ∙ sym c.offers_meet.ensures ∙ c.if-not-offers_meet.false in
    subst IsJoinedInRange (sym c.joined_with-joined.ensures) (join_in_range w c.args.mine c.args.own c.args.other c.args.partner c.requires.kept (waits_unjoined w c.args.other (sym c.in-Waiting.ensures)) held meets)

pub returns-clause-sound : goal.returns-clause-sound
returns-clause-sound c =
    let w = world_of c.args.self.now in
    let joined : Joined = joined_with w.table c.args.mine c.args.own c.args.other c.args.partner in
    let held : Holds w c.args.seat c.args.mine = c.holds.ensures.0 c.if-not-holds.false in
    let claimed : cell_at w.table c.args.mine ≡ Claimed = sym c.in-Claimed.ensures in
    let waiting : cell_at w.table c.args.other ≡ Waiting = sym c.in-Waiting.ensures in
    let unnamed : namer_at w c.args.mine ≡ None = sym c.namer.ensures ∙ none_from c.namer.result (sym c.is_some.ensures ∙ c.if-is_some.false) in
    let meets : offers_meet (offer_at w.table c.args.mine c.args.own) (offer_at w.table c.args.other c.args.partner) ≡ true =
    (λ i. offers_meet (sym c.offer.ensures i) (sym c.offer-2.ensures i)) ∙ sym c.offers_meet.ensures ∙ c.if-not-offers_meet.false in
    let written : table_of c.set_cell.new.self ≡ with_cell w.table c.args.other (Synched joined) =
    c.set_cell.ensures.written ∙ ap (λ (j : Joined). with_cell w.table c.args.other (Synched j)) c.joined_with-joined.ensures in
    let apart : c.args.mine.thread ≢ c.args.other.thread = c.if-mine-other.false in
    sound_state _ w (with_cell w.table c.args.other (Synched joined)) written refl refl refl
    (kept_condition w c.args.seat (Join c.args.mine c.args.own c.args.other c.args.partner) c.requires.kept (held, claimed, unnamed, waiting, apart, meets))
    (subst (λ (n : ℕ). Tells (with_table w (with_cell w.table c.args.other (Synched joined))) (set c.args.self.now.namers.items n (Some c.args.other)))
    (sym c.number-at.ensures.value)
    (tells_join w c.args.mine c.args.own c.args.other c.args.partner c.args.self.now.namers.items c.requires.kept claimed unnamed waiting meets c.args.self.now.named c.requires.told))
