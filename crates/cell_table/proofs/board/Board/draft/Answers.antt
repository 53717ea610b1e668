use Rattle.std.proofs.Common.{rules, subst, sym, ap, ◌≡◌}
use mathlib.Core.Option.{none}
use Rattle.atomic_table.specs.Table.{Allows, step}
use Rattle.cell_table.specs.declared.view.Shape.{Shape}
use Rattle.cell_table.specs.Rule.{Keeps}
use Rattle.cell_table.specs.Told.{AgreesWithItself, drafted}
use Rattle.cell_table.specs.Views.{word_drafted}
use Rattle.cell_table.proofs.Allowing.{draft_allowed, at_view, place_view, sits_still}
use Rattle.cell_table.proofs.board.Board.draft.Goals as goal

pub store-requires : goal.store-requires
store-requires g c = (
  search rules,
  search rules,
  subst (λ (z : Shape g.row.M.Denot). Allows (Keeps g.M.Resident.stands z) c.args.self.now.words.shared.table_id.slots c.args.seat.now.id c.args.seat.now.me c.place_behind.result (λ n. c.args.word) (λ n. drafted (step c.args.self.now.words.shared.table_id.slots c.place_behind.result c.args.word 0 none) c.args.seat.now.me c.args.word)) (sym c.args.self.now.keyed)
      (draft_allowed g.M.Resident.stands c.args.self.now.shape c.args.self.now.words.shared.table_id.slots c.args.seat.now.id c.place_behind.result c.args.seat.now.me c.args.row (search rules) (search rules) (search rules) (search rules) c.args.place c.args.word (search rules) (search rules) (search rules) c.requires.few c.requires.resting (search rules) (search rules) c.requires.alive (search rules)),
)

told : (g : _) (c : goal.After-store g)
    → (c.store.new.seat.me ≡ (word_drafted c.args.row c.args.place c.args.word c.args.seat.now.me.0, c.args.seat.now.me.1)) × AgreesWithItself c.store.new.seat.me.0
told g c = c.store.ensures.2 c.args.row c.args.place (search rules)
    (at_view c.args.self.now.shape c.args.seat.now.me.0 c.args.row (search rules) (search rules) (search rules) (search rules), place_view c.args.self.now.shape c.args.seat.now.me.0 c.args.row c.args.place c.place_behind.result (search rules) (search rules))

pub returns-clause-sits : goal.returns-clause-sits
returns-clause-sits g c = ((search rules), sits_still c.args.self.now c.args.seat.now c.store.new.seat (search rules) (search rules) (ap (λ z. z.0.threads) (told g c).0) (ap (λ z. z.0.rows) (told g c).0) (ap (λ z. z.0.layout) (told g c).0) (ap (λ z. z.0.first) (told g c).0) (ap (λ z. z.0.lives) (told g c).0) (ap (λ z. z.0.nacks) (told g c).0) (told g c).1, ap (λ z. z.1) (told g c).0)

pub returns-clause-drafted : goal.returns-clause-drafted
returns-clause-drafted g c = ap (λ z. z.0) (told g c).0
