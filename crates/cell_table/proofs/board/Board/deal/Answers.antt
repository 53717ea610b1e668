use Rattle.std.proofs.Common.{rules, Option, ◌<◌, subst, sym, ℕ}
use Rattle.atomic_table.specs.Table.{Splits}
use Rattle.cell_table.specs.declared.view.Shape.{Shape}
use Rattle.cell_table.specs.declared.view.View.{View}
use Rattle.cell_table.specs.Rule.{Keeps, dealt_pass, dealt_one}
use Rattle.cell_table.proofs.Dealing.{deal_allowed, some_words}
use Rattle.cell_table.proofs.board.Board.deal.Goals as goal

-- src/start.rt:39:9
pub split_seat-requires : goal.split_seat-requires
split_seat-requires g c = (
  search rules,
  subst (λ (n : ℕ). 0 < n) (sym c.args.self.now.sized) (some_words c.args.self.now.shape.layout c.args.self.now.shape.threads c.requires.some_words),
  subst (λ (z : Shape g.row.M.Denot × View g.row.M.Denot). Splits {S = Option g.row.M.Denot} (Keeps g.M.Resident.stands z.0) c.args.seat.now.id z.1 (dealt_one z.1) (dealt_pass z.1)) (λ i. (sym c.args.self.now.keyed i, (sym c.requires.seat.1 i).0))
      (deal_allowed g.M.Resident.stands c.args.self.now.shape c.args.seat.now.id c.args.number c.requires.number c.requires.some_words),
)
