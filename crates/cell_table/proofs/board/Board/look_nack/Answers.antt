use Rattle.std.proofs.Common.{rules, subst, sym}
use mathlib.Core.Option.{none}
use Rattle.atomic_table.specs.Table.{Allows, step}
use Rattle.cell_table.specs.declared.view.Shape.{Shape}
use Rattle.cell_table.specs.Rule.{Keeps}
use Rattle.cell_table.specs.Told.{looked_nack}
use Rattle.cell_table.proofs.Binding.{look_nack_allowed}
use Rattle.cell_table.proofs.board.Board.look_nack.Goals as goal

pub load-requires : goal.load-requires
load-requires g c = (
  search rules,
  search rules,
  subst (λ (z : Shape g.row.M.Denot). Allows (Keeps g.M.Resident.stands z) c.args.self.now.words.shared.table_id.slots c.args.seat.now.id c.args.seat.now.me c.nack_place.result (λ n. n) (looked_nack (step c.args.self.now.words.shared.table_id.slots c.nack_place.result 0 0 none) c.args.seat.now.me)) (sym c.args.self.now.keyed)
      (look_nack_allowed g.M.Resident.stands c.args.self.now.shape c.args.self.now.words.shared.table_id.slots c.args.seat.now.id c.nack_place.result c.args.seat.now.me c.args.nack (search rules) (search rules) (search rules) (search rules) (search rules)),
)
