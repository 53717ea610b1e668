use Rattle.std.proofs.Common.{rules, subst, sym, ap, ◌∙◌, ◌≡◌, ◌≢◌, ℕ, eqb}
use mathlib.Core.Option.{none}
use prog.Atomic.{either}
use Rattle.atomic_table.specs.Table.{Allows, step}
use Rattle.protocol_values.specs.Words.{cell_word}
use Rattle.protocol_values.specs.declared.Cell.{Cell}
use Rattle.cell_table.specs.Views.{saw}
use Rattle.cell_table.specs.Seats.{StaysSeated}
use Rattle.protocol_values.specs.declared.Cell.TheVariants.{Waiting}
use Rattle.cell_table.specs.declared.view.Shape.{Shape}
use Rattle.cell_table.specs.Rule.{Keeps}
use Rattle.protocol_values.specs.declared.Joined.{Joined}
use Rattle.cell_table.specs.Told.{Agrees, cell_read, finds, joined, joining}
use Rattle.cell_table.proofs.Allowing.{join_allowed, at_view, place_view, not_waiting, sits_still}
use Rattle.cell_table.proofs.Exchanging.{exchange_either, exchange_made, exchange_refused}
use Rattle.cell_table.proofs.board.Board.join.Goals as goal

pub compare_exchange-found-requires : goal.compare_exchange-found-requires
compare_exchange-found-requires g c = (
  search rules,
  search rules,
  subst (λ (z : Shape g.row.M.Denot × ℕ × ℕ). Allows (Keeps g.M.Resident.stands z.0) c.args.self.now.words.shared.table_id.slots c.args.seat.now.id c.args.seat.now.me c.place.result (λ n. either (eqb n z.1) z.2 n) (joined (step c.args.self.now.words.shared.table_id.slots c.place.result z.1 z.2 none) c.args.seat.now.me)) (λ i. (sym c.args.self.now.keyed i, sym c.pack_cell-waiting.ensures i, sym c.pack_cell-synched.ensures i))
      (join_allowed g.M.Resident.stands c.args.self.now.shape c.args.self.now.words.shared.table_id.slots c.args.seat.now.id c.place.result c.args.seat.now.me c.args.row (search rules) (search rules) (search rules) (search rules) c.args.mine c.args.own c.args.partner c.args.joined (search rules) (search rules) (search rules) (search rules) (search rules)),
)

pub returns-clause-sits : goal.returns-clause-sits
returns-clause-sits g c =
    let told = c.compare_exchange-found.ensures.2 c.args.mine c.args.own c.args.row c.args.joined (search rules) (ap (λ (j : Joined). j.partner) c.requires.can.0.is)
    (at_view c.args.self.now.shape c.args.seat.now.me.0 c.args.row (search rules) (search rules) (search rules) (search rules), place_view c.args.self.now.shape c.args.seat.now.me.0 c.args.row 0 c.place.result (search rules) (search rules)) c.requires.can.1 c.pack_cell-synched.ensures in
    exchange_either c.exchanged.result (c.compare_exchange-found.result ≡ c.pack_cell-waiting.result) (λ cell. (c.compare_exchange-found.result ≢ c.pack_cell-waiting.result) × (cell ≡ cell_read c.compare_exchange-found.result)) (StaysSeated c.args.self.now c.args.seat.now c.compare_exchange-found.new.seat)
    (λ made. let is = told.0 (made ∙ c.pack_cell-waiting.ensures) in ((search rules), sits_still c.args.self.now c.args.seat.now c.compare_exchange-found.new.seat (search rules) (search rules) (ap (λ z. z.0.threads) is) (ap (λ z. z.0.rows) is) (ap (λ z. z.0.layout) is) (ap (λ z. z.0.first) is) (ap (λ z. z.0.lives) is) (ap (λ z. z.0.nacks) is) told.2, ap (λ z. z.1) is))
    (λ cell refused.
    let found : finds c.args.seat.now.me c.args.row c.compare_exchange-found.result c.compare_exchange-found.new.seat.me = told.1 (λ e. refused.0 (e ∙ sym c.pack_cell-waiting.ensures)) in
    ((search rules), sits_still c.args.self.now c.args.seat.now c.compare_exchange-found.new.seat (search rules) (search rules) (ap (λ z. z.0.threads) found.0) (ap (λ z. z.0.rows) found.0) (ap (λ z. z.0.layout) found.0) (ap (λ z. z.0.first) found.0) (ap (λ z. z.0.lives) found.0) (ap (λ z. z.0.nacks) found.0) told.2, ap (λ z. z.1) found.0))
    c.exchanged.ensures.made c.exchanged.ensures.refused

pub returns-clause-joined : goal.returns-clause-joined
returns-clause-joined g c =
    let told = c.compare_exchange-found.ensures.2 c.args.mine c.args.own c.args.row c.args.joined (search rules) (ap (λ (j : Joined). j.partner) c.requires.can.0.is)
    (at_view c.args.self.now.shape c.args.seat.now.me.0 c.args.row (search rules) (search rules) (search rules) (search rules), place_view c.args.self.now.shape c.args.seat.now.me.0 c.args.row 0 c.place.result (search rules) (search rules)) c.requires.can.1 c.pack_cell-synched.ensures in
    exchange_made c.exchanged.result (c.compare_exchange-found.result ≡ c.pack_cell-waiting.result) (λ u. c.compare_exchange-found.new.seat.me.0 ≡ joining c.args.mine c.args.own c.args.row c.args.joined c.args.seat.now.me.0)
    (λ u made. let is = told.0 (made ∙ c.pack_cell-waiting.ensures) in ap (λ z. z.0) is)
    c.exchanged.ensures.made

pub returns-clause-found : goal.returns-clause-found
returns-clause-found g c =
    let told = c.compare_exchange-found.ensures.2 c.args.mine c.args.own c.args.row c.args.joined (search rules) (ap (λ (j : Joined). j.partner) c.requires.can.0.is)
    (at_view c.args.self.now.shape c.args.seat.now.me.0 c.args.row (search rules) (search rules) (search rules) (search rules), place_view c.args.self.now.shape c.args.seat.now.me.0 c.args.row 0 c.place.result (search rules) (search rules)) c.requires.can.1 c.pack_cell-synched.ensures in
    exchange_refused c.exchanged.result (λ cell. (c.compare_exchange-found.result ≢ c.pack_cell-waiting.result) × (cell ≡ cell_read c.compare_exchange-found.result)) (λ cell. (cell ≢ Waiting) × (c.compare_exchange-found.new.seat.me.0 ≡ saw c.args.row cell c.args.seat.now.me.0) × Agrees c.args.seat.now.me.0 c.args.row cell)
    (λ cell refused.
    let other : c.compare_exchange-found.result ≢ cell_word Waiting = (λ e. refused.0 (e ∙ sym c.pack_cell-waiting.ensures)) in
    let found : finds c.args.seat.now.me c.args.row c.compare_exchange-found.result c.compare_exchange-found.new.seat.me = told.1 other in
    (λ e. not_waiting c.compare_exchange-found.result other (sym refused.1 ∙ e), ap (λ z. z.0) found.0 ∙ ap (λ (x : Cell). saw c.args.row x c.args.seat.now.me.0) (sym refused.1), subst (Agrees c.args.seat.now.me.0 c.args.row) (sym refused.1) found.1))
    c.exchanged.ensures.refused
