use Rattle.std.proofs.Common.{Option, rules, List, length, ◌+◌, subst, sym, ap, ◌∙◌, ◌≡◌, ◌≢◌, ℕ, eqb}
use mathlib.Core.Option.{none}
use prog.Atomic.{either}
use Rattle.atomic_table.specs.Table.{Allows, step}
use Rattle.protocol_values.specs.Words.{cell_word}
use Rattle.protocol_values.specs.declared.Cell.{Cell}
use Rattle.protocol_ledger.specs.Standing.{Result}
use Rattle.cell_table.specs.Views.{did, saw, took_with}
use Rattle.protocol_values.specs.declared.Step.TheVariants.{Take}
use Rattle.protocol_values.specs.declared.NackName.{NackName}
use Rattle.protocol_values.specs.declared.Binding.{Binding}
use Rattle.protocol_ledger.specs.Tables.{bound_row}
use Rattle.protocol_values.specs.Values.{next_row}
use Rattle.cell_table.specs.Sight.{Has, SawEnded}
use Rattle.cell_table.specs.Seats.{StaysAtTable}
use Rattle.protocol_values.specs.declared.Cell.TheVariants.{Fresh, Synched}
use Rattle.cell_table.specs.declared.view.Shape.{Shape}
use Rattle.cell_table.specs.Rule.{Keeps}
use Rattle.cell_table.specs.Told.{Agrees, ComesOut, cell_read, finds, taken}
use Rattle.cell_table.proofs.Allowing.{take_allowed, at_view, place_view, not_cell, sits_still}
use Rattle.cell_table.proofs.Exchanging.{exchange_either, exchange_made, exchange_refused}
use Rattle.cell_table.proofs.board.Board.take_committed.Goals as goal

pub compare_exchange-found-requires : goal.compare_exchange-found-requires
compare_exchange-found-requires g c = (
  search rules,
  search rules,
  subst (λ (z : Shape g.row.M.Denot × ℕ × ℕ). Allows (Keeps g.M.Resident.stands z.0) c.args.self.now.words.shared.table_id.slots c.args.seat.now.id c.args.seat.now.me c.place.result (λ n. either (eqb n z.1) z.2 n) (taken g.M.Resident.stands (step c.args.self.now.words.shared.table_id.slots c.place.result z.1 z.2 none) c.args.seat.now.me)) (λ i. (sym c.args.self.now.keyed i, sym c.pack_cell-committed.ensures i, sym c.pack_cell-taken.ensures i))
      (take_allowed g.M.Resident.stands c.args.self.now.shape c.args.self.now.words.shared.table_id.slots c.args.seat.now.id c.place.result c.args.seat.now.me c.args.row (search rules) (search rules) (search rules) (search rules) c.args.self.now.slots c.requires.resting c.args.joined c.requires.range (search rules)),
)

pub returns-clause-sits : goal.returns-clause-sits
returns-clause-sits g c =
    let told = c.compare_exchange-found.ensures.2 c.args.row c.args.joined
    (at_view c.args.self.now.shape c.args.seat.now.me.0 c.args.row (search rules) (search rules) (search rules) (search rules), place_view c.args.self.now.shape c.args.seat.now.me.0 c.args.row 0 c.place.result (search rules) (search rules)) c.requires.range c.pack_cell-taken.ensures in
    exchange_either c.exchanged.result (c.compare_exchange-found.result ≡ c.pack_cell-committed.result) (λ cell. (c.compare_exchange-found.result ≢ c.pack_cell-committed.result) × (cell ≡ cell_read c.compare_exchange-found.result)) (StaysAtTable c.args.self.now c.args.seat.now c.compare_exchange-found.new.seat)
    (λ made. let is = told.0 (made ∙ c.pack_cell-committed.ensures) in ((search rules), sits_still c.args.self.now c.args.seat.now c.compare_exchange-found.new.seat (search rules) (search rules) (ap (λ z. z.threads) is.2) (ap (λ z. z.rows) is.2) (ap (λ z. z.layout) is.2) (ap (λ z. z.first) is.2) (ap (λ z. z.lives) is.2) (ap (λ z. z.nacks) is.2) told.2))
    (λ cell refused.
    let found : finds c.args.seat.now.me c.args.row c.compare_exchange-found.result c.compare_exchange-found.new.seat.me = told.1 (λ e. refused.0 (e ∙ sym c.pack_cell-committed.ensures)) in
    ((search rules), sits_still c.args.self.now c.args.seat.now c.compare_exchange-found.new.seat (search rules) (search rules) (ap (λ z. z.0.threads) found.0) (ap (λ z. z.0.rows) found.0) (ap (λ z. z.0.layout) found.0) (ap (λ z. z.0.first) found.0) (ap (λ z. z.0.lives) found.0) (ap (λ z. z.0.nacks) found.0) told.2))
    c.exchanged.ensures.made c.exchanged.ensures.refused

pub returns-clause-took : goal.returns-clause-took
returns-clause-took g c =
    let told = c.compare_exchange-found.ensures.2 c.args.row c.args.joined
    (at_view c.args.self.now.shape c.args.seat.now.me.0 c.args.row (search rules) (search rules) (search rules) (search rules), place_view c.args.self.now.shape c.args.seat.now.me.0 c.args.row 0 c.place.result (search rules) (search rules)) c.requires.range c.pack_cell-taken.ensures in
    exchange_made c.exchanged.result (c.compare_exchange-found.result ≡ c.pack_cell-committed.result) (λ u. (results : List Result) × (length results ≡ c.args.row.sync + 1) × (c.compare_exchange-found.new.seat.me.0 ≡ did (Take c.args.row) (took_with c.args.row c.args.joined results c.args.seat.now.me.0)) × ComesOut g.M.Resident.stands c.args.self.now.shape.first.value.items c.args.seat.now.me.0.seen c.compare_exchange-found.new.seat.me.0.seen c.args.row c.args.joined.own results c.args.seat.now.me.1 c.compare_exchange-found.new.seat.me.1 × Agrees c.args.seat.now.me.0 c.args.row (Synched c.args.joined) × (¬ Has c.args.seat.now.me.0.seen.opened (next_row c.args.row)) × (¬ SawEnded c.args.seat.now.me.0.seen c.args.row.thread) × ((n : NackName) (b : Binding) → Has c.args.seat.now.me.0.seen.bound (n, b) → bound_row n b ≢ next_row c.args.row))
    (λ u made. let is = told.0 (made ∙ c.pack_cell-committed.ensures) in (is.0, is.1, is.2, subst (λ (l : List (Option g.row.M.Denot)). ComesOut g.M.Resident.stands l c.args.seat.now.me.0.seen c.compare_exchange-found.new.seat.me.0.seen c.args.row c.args.joined.own is.0 c.args.seat.now.me.1 c.compare_exchange-found.new.seat.me.1) c.requires.sits.0.4 is.3, is.4, is.5, is.6, is.7))
    c.exchanged.ensures.made

pub returns-clause-found : goal.returns-clause-found
returns-clause-found g c =
    let told = c.compare_exchange-found.ensures.2 c.args.row c.args.joined
    (at_view c.args.self.now.shape c.args.seat.now.me.0 c.args.row (search rules) (search rules) (search rules) (search rules), place_view c.args.self.now.shape c.args.seat.now.me.0 c.args.row 0 c.place.result (search rules) (search rules)) c.requires.range c.pack_cell-taken.ensures in
    exchange_refused c.exchanged.result (λ cell. (c.compare_exchange-found.result ≢ c.pack_cell-committed.result) × (cell ≡ cell_read c.compare_exchange-found.result)) (λ cell. (cell ≢ Synched c.args.joined) × (c.compare_exchange-found.new.seat.me ≡ (saw c.args.row cell c.args.seat.now.me.0, c.args.seat.now.me.1)) × Agrees c.args.seat.now.me.0 c.args.row cell)
    (λ cell refused.
    let other : c.compare_exchange-found.result ≢ cell_word (Synched c.args.joined) = (λ e. refused.0 (e ∙ sym c.pack_cell-committed.ensures)) in
    let found : finds c.args.seat.now.me c.args.row c.compare_exchange-found.result c.compare_exchange-found.new.seat.me = told.1 other in
    (λ e. not_cell (Synched c.args.joined) c.compare_exchange-found.result (λ f. let bad : Synched c.args.joined ≡ Fresh = f in cc) other (sym refused.1 ∙ e), found.0 ∙ ap (λ (x : Cell). (saw c.args.row x c.args.seat.now.me.0, c.args.seat.now.me.1)) (sym refused.1), subst (Agrees c.args.seat.now.me.0 c.args.row) (sym refused.1) found.1))
    c.exchanged.ensures.refused
