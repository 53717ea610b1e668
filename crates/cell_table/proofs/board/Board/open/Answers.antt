use Rattle.std.proofs.Common.{rules, subst, sym, ℕ}
use mathlib.Core.Option.{none}
use Rattle.atomic_table.specs.Table.{Allows, step}
use Rattle.cell_table.specs.declared.view.Shape.{Shape}
use Rattle.cell_table.specs.Rule.{Keeps}
use Rattle.cell_table.specs.Told.{opened}
use Rattle.cell_table.proofs.Allowing.{open_allowed}
use Rattle.cell_table.proofs.board.Board.open.Goals as goal

pub store-requires : goal.store-requires
store-requires g c = (
  search rules,
  search rules,
  subst (λ (z : Shape g.row.M.Denot × ℕ). Allows (Keeps g.M.Resident.stands z.0) c.args.self.now.words.shared.table_id.slots c.args.seat.now.id c.args.seat.now.me c.place.result (λ n. z.1) (λ n. opened (step c.args.self.now.words.shared.table_id.slots c.place.result z.1 0 none) c.args.seat.now.me z.1)) (λ i. (sym c.args.self.now.keyed i, sym c.pack_cell.ensures i))
      (open_allowed g.M.Resident.stands c.args.self.now.shape c.args.self.now.words.shared.table_id.slots c.args.seat.now.id c.place.result c.args.seat.now.me c.args.row (search rules) (search rules) (search rules) (search rules) c.args.self.now.slots c.args.self.now.full (search rules) (search rules) (search rules) c.requires.alive c.requires.parked (search rules)),
)
