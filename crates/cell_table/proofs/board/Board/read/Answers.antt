use Rattle.std.proofs.Common.{rules, subst, sym, ap, ◌≡◌, ◌≤◌, unwrap_or}
use Rattle.protocol_ledger.specs.declared.layout.Layout.{Layout}
use Rattle.protocol_values.specs.Words.{count_of}
use mathlib.Core.Option.{none}
use Rattle.atomic_table.specs.Table.{Allows, step}
use Rattle.cell_table.specs.declared.view.Shape.{Shape}
use Rattle.cell_table.specs.Rule.{Keeps}
use Rattle.cell_table.specs.Told.{AgreesWithItself, has_read}
use Rattle.cell_table.specs.Views.{read_word}
use Rattle.cell_table.proofs.Allowing.{read_allowed, at_view, place_view, sits_still}
use Rattle.cell_table.proofs.board.Board.read.Goals as goal

pub load-requires : goal.load-requires
load-requires g c = (
  search rules,
  search rules,
  subst (λ (z : Shape g.row.M.Denot). Allows (Keeps g.M.Resident.stands z) c.args.self.now.words.shared.table_id.slots c.args.seat.now.id c.args.seat.now.me c.place_behind.result (λ n. n) (has_read (step c.args.self.now.words.shared.table_id.slots c.place_behind.result 0 0 none) c.args.seat.now.me)) (sym c.args.self.now.keyed)
      (read_allowed g.M.Resident.stands c.args.self.now.shape c.args.self.now.words.shared.table_id.slots c.args.seat.now.id c.place_behind.result c.args.seat.now.me c.args.row (search rules) (search rules) (search rules) (search rules) c.args.place (search rules) (search rules) (search rules) (search rules)),
)

told : (g : _) (c : goal.After-load g) → (c.load.new.seat.me ≡ (read_word c.args.row c.args.place c.load.result c.args.seat.now.me.0, c.args.seat.now.me.1)) × AgreesWithItself c.load.new.seat.me.0 × (c.args.place ≡ 1 → unwrap_or (count_of c.load.result) 0 ≤ c.args.seat.now.me.0.layout.offers)
told g c = c.load.ensures.2 c.args.row c.args.place (search rules) (at_view c.args.self.now.shape c.args.seat.now.me.0 c.args.row (search rules) (search rules) (search rules) (search rules), place_view c.args.self.now.shape c.args.seat.now.me.0 c.args.row c.args.place c.place_behind.result (search rules) (search rules))

pub returns-clause-sits : goal.returns-clause-sits
returns-clause-sits g c = ((search rules), sits_still c.args.self.now c.args.seat.now c.load.new.seat (search rules) (search rules) (ap (λ z. z.0.threads) (told g c).0) (ap (λ z. z.0.rows) (told g c).0) (ap (λ z. z.0.layout) (told g c).0) (ap (λ z. z.0.first) (told g c).0) (ap (λ z. z.0.lives) (told g c).0) (ap (λ z. z.0.nacks) (told g c).0) (told g c).1, ap (λ z. z.1) (told g c).0)

pub returns-clause-read : goal.returns-clause-read
returns-clause-read g c = ap (λ z. z.0) (told g c).0

pub returns-clause-few : goal.returns-clause-few
returns-clause-few g c first = subst (λ (y : Layout). unwrap_or (count_of c.load.result) 0 ≤ y.offers) c.requires.sits.0.8 ((told g c).2 first)
