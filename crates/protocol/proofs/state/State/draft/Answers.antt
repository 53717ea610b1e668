use Rattle.std.proofs.Common.{arith, ◌≡◌, ◌≤◌, ap, sym, refl, ◌∙◌}
use Rattle.protocol_values.specs.declared.Step.TheVariants.{Draft}
use Rattle.protocol_ledger.specs.Worlds.{Holds, with_word, Condition}
use Rattle.protocol_ledger.specs.Sheets.{table_of}
use Rattle.protocol.specs.States.{world_of}
use Rattle.protocol_ledger.proofs.Keeping.{held_row, kept_condition}
use Rattle.protocol.proofs.Telling.{tells_draft}
use Rattle.protocol.proofs.Soundness.{sound_state}
use Rattle.protocol_ledger.proofs.Sheets.{row_there}
use Rattle.protocol.proofs.state.State.draft.Goals as goal

pub set_word-requires-clause-row : goal.set_word-requires-clause-row
set_word-requires-clause-row c = held_row (world_of c.args.self.now) c.args.row c.args.seat.0 (c.holds.ensures.0 c.if-not-holds.false)

pub set_word-requires-clause-words : goal.set_word-requires-clause-words
set_word-requires-clause-words c = row_there c.args.self.now.sheet c.args.self.now.whole c.args.row (held_row (world_of c.args.self.now) c.args.row c.args.seat.0 (c.holds.ensures.0 c.if-not-holds.false))

pub returns-clause-sound : goal.returns-clause-sound
returns-clause-sound c =
    let w = world_of c.args.self.now in
    let held : Holds w c.args.seat c.args.row = c.holds.ensures.0 c.if-not-holds.false in
    let low : 1 ≤ c.args.place = c.if-place-lt1.false in
    let high : c.args.place ≤ 33 = (let below = c.if-from-ge-ROW_LEN.false in let same = c.from.ensures in omega arith) in
    let written : table_of c.set_word.new.self ≡ with_word w.table c.args.row c.args.place c.args.value =
    c.set_word.ensures.written ∙ ap (λ n. with_word w.table c.args.row n c.args.value) c.from-2.ensures in
    let condition : Condition w c.args.seat (Draft c.args.row c.args.place c.args.value) =
    (held, sym c.in-Fresh.ensures, c.is_alive.ensures.0 c.if-not-is_alive.false, low, high, sym c.is_word_for.ensures ∙ c.if-not-is_word_for.false) in
    sound_state _ w (with_word w.table c.args.row c.args.place c.args.value) written refl refl refl
    (kept_condition w c.args.seat (Draft c.args.row c.args.place c.args.value) c.requires.kept condition)
    (tells_draft w c.args.row c.args.place c.args.value c.args.self.now.namers.items (held_row w c.args.row c.args.seat.0 held) low high c.requires.told)
