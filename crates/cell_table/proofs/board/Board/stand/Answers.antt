use Rattle.std.proofs.Common.{ap, rules, subst, sym}
use mathlib.Core.Option.{none}
use Rattle.atomic_table.specs.Table.{Allows, step}
use Rattle.cell_table.specs.declared.view.Shape.{Shape}
use Rattle.cell_table.specs.Rule.{Keeps}
use Rattle.cell_table.specs.Told.{turned_to}
use Rattle.cell_table.proofs.Allowing.{sits_still}
use Rattle.cell_table.proofs.Starts.{stand_allowed}
use Rattle.cell_table.proofs.board.Board.stand.Goals as goal

pub load-requires : goal.load-requires
load-requires g c = (
  search rules,
  search rules,
  subst (λ (z : Shape g.row.M.Denot). Allows (Keeps g.M.Resident.stands z) c.args.self.now.words.shared.table_id.slots c.args.seat.now.id c.args.seat.now.me c.life_place.result (λ n. n) (turned_to (step c.args.self.now.words.shared.table_id.slots c.life_place.result 0 0 none) c.args.seat.now.me)) (sym c.args.self.now.keyed)
      (stand_allowed g.M.Resident.stands c.args.self.now.shape c.args.self.now.words.shared.table_id.slots c.args.seat.now.id c.life_place.result c.args.seat.now.me c.args.row (search rules) (search rules) (search rules) (search rules) (search rules) (search rules)),
)

pub returns-clause-sits : goal.returns-clause-sits
returns-clause-sits g c =
    let told = c.load.ensures.2 c.args.row (search rules) (search rules) in
    ((search rules), sits_still c.args.self.now c.args.seat.now c.load.new.seat (search rules) (search rules) (ap (λ z. z.0.threads) told.0) (ap (λ z. z.0.rows) told.0) (ap (λ z. z.0.layout) told.0) (ap (λ z. z.0.first) told.0) (ap (λ z. z.0.lives) told.0) (ap (λ z. z.0.nacks) told.0) told.2, ap (λ z. z.1) told.0)
