use Rattle.std.proofs.Common.{rules, subst, sym}
use mathlib.Core.Option.{none}
use Rattle.atomic_table.specs.Table.{Allows, step}
use Rattle.cell_table.specs.declared.view.Shape.{Shape}
use Rattle.cell_table.specs.Rule.{Keeps}
use Rattle.cell_table.specs.Told.{looked}
use Rattle.cell_table.proofs.Allowing.{look_allowed}
use Rattle.cell_table.proofs.board.Board.look.Goals as goal

pub load-requires : goal.load-requires
load-requires g c = (
  search rules,
  search rules,
  subst (λ (z : Shape g.row.M.Denot). Allows (Keeps g.M.Resident.stands z) c.args.self.now.words.shared.table_id.slots c.args.seat.now.id c.args.seat.now.me c.place.result (λ n. n) (looked (step c.args.self.now.words.shared.table_id.slots c.place.result 0 0 none) c.args.seat.now.me)) (sym c.args.self.now.keyed)
      (look_allowed g.M.Resident.stands c.args.self.now.shape c.args.self.now.words.shared.table_id.slots c.args.seat.now.id c.place.result c.args.seat.now.me c.args.row (search rules) (search rules) (search rules) (search rules) (search rules)),
)
