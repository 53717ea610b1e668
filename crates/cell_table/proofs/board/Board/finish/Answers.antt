use Rattle.std.proofs.Common.{rules, subst, sym, ℕ}
use mathlib.Core.Option.{none}
use Rattle.atomic_table.specs.Table.{Allows, step}
use Rattle.cell_table.specs.declared.view.Shape.{Shape}
use Rattle.cell_table.specs.Rule.{Keeps}
use Rattle.cell_table.specs.Told.{finished}
use Rattle.cell_table.proofs.Ends.{finish_allowed}
use Rattle.cell_table.proofs.board.Board.finish.Goals as goal

pub store-requires : goal.store-requires
store-requires g c = (
  search rules,
  search rules,
  subst (λ (z : Shape g.row.M.Denot × ℕ). Allows (Keeps g.M.Resident.stands z.0) c.args.self.now.words.shared.table_id.slots c.args.seat.now.id c.args.seat.now.me c.life_place.result (λ n. z.1) (λ n. finished (step c.args.self.now.words.shared.table_id.slots c.life_place.result z.1 0 none) c.args.seat.now.me z.1)) (λ i. (sym c.args.self.now.keyed i, sym c.pack_course.ensures i))
      (finish_allowed g.M.Resident.stands c.args.self.now.shape c.args.self.now.words.shared.table_id.slots c.args.seat.now.id c.life_place.result c.args.seat.now.me c.args.row (search rules) (search rules) (search rules) (search rules) (search rules) c.requires.finishing c.requires.resting (search rules) (search rules) c.args.start (search rules) (search rules)),
)
