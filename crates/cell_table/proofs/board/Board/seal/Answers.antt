use Rattle.std.proofs.Common.{rules, subst, sym, ap, ◌≡◌, ℕ}
use mathlib.Core.Option.{none}
use Rattle.atomic_table.specs.Table.{Allows, step}
use Rattle.protocol_values.specs.declared.Step.TheVariants.{Seal}
use Rattle.protocol_ledger.specs.Worlds.{mirrored}
use Rattle.cell_table.specs.declared.view.Shape.{Shape}
use Rattle.cell_table.specs.Rule.{Keeps}
use Rattle.cell_table.specs.Told.{AgreesWithItself, sealed, settled}
use Rattle.cell_table.specs.Views.{did}
use Rattle.cell_table.proofs.Allowing.{seal_allowed, at_view, place_view, sits_still}
use Rattle.cell_table.proofs.board.Board.seal.Goals as goal

pub store-requires : goal.store-requires
store-requires g c = (
  search rules,
  search rules,
  subst (λ (z : Shape g.row.M.Denot × ℕ). Allows (Keeps g.M.Resident.stands z.0) c.args.self.now.words.shared.table_id.slots c.args.seat.now.id c.args.seat.now.me c.place.result (λ n. z.1) (λ n. sealed (step c.args.self.now.words.shared.table_id.slots c.place.result z.1 0 none) c.args.seat.now.me z.1)) (λ i. (sym c.args.self.now.keyed i, sym c.pack_cell.ensures i))
      (seal_allowed g.M.Resident.stands c.args.self.now.shape c.args.self.now.words.shared.table_id.slots c.args.seat.now.id c.place.result c.args.seat.now.me c.args.row (search rules) (search rules) (search rules) (search rules) c.args.other c.args.own c.args.joined (search rules) (search rules) (search rules) (search rules) (search rules)),
)

told : (g : _) (c : goal.After-store g)
    → (c.store.new.seat.me ≡ (did (Seal c.args.row) (settled c.args.row (mirrored c.args.other c.args.joined c.args.own) c.args.seat.now.me.0), c.args.seat.now.me.1)) × AgreesWithItself c.store.new.seat.me.0
told g c = c.store.ensures.2 c.args.row (mirrored c.args.other c.args.joined c.args.own)
    (at_view c.args.self.now.shape c.args.seat.now.me.0 c.args.row (search rules) (search rules) (search rules) (search rules), place_view c.args.self.now.shape c.args.seat.now.me.0 c.args.row 0 c.place.result (search rules) (search rules)) (search rules) (search rules)

pub returns-clause-sits : goal.returns-clause-sits
returns-clause-sits g c = ((search rules), sits_still c.args.self.now c.args.seat.now c.store.new.seat (search rules) (search rules) (ap (λ z. z.0.threads) (told g c).0) (ap (λ z. z.0.rows) (told g c).0) (ap (λ z. z.0.layout) (told g c).0) (ap (λ z. z.0.first) (told g c).0) (ap (λ z. z.0.lives) (told g c).0) (ap (λ z. z.0.nacks) (told g c).0) (told g c).1, ap (λ z. z.1) (told g c).0)

pub returns-clause-sealed : goal.returns-clause-sealed
returns-clause-sealed g c = ap (λ z. z.0) (told g c).0
