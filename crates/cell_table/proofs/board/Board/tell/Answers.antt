use Rattle.std.proofs.Common.{rules, Option, ◌≡◌, ◌<◌, [], ℕ, subst, sym, ap, arith}
use Rattle.atomic_table.specs.Table.{Splits, Joins}
use Rattle.cell_table.specs.declared.view.Shape.{Shape}
use Rattle.cell_table.specs.declared.view.Stage.TheVariants.{Aside}
use Rattle.cell_table.specs.declared.view.View.{View}
use Rattle.cell_table.specs.Rule.{Keeps, told_pass, heard_pass, spent_pass}
use Rattle.cell_table.proofs.Hearing.{tell_allowed, hear_allowed}
use Rattle.cell_table.proofs.Dealing.{some_words}
use Rattle.cell_table.proofs.board.Board.tell.Goals as goal

pub split_seat-told-requires : goal.split_seat-told-requires
split_seat-told-requires g c =
    let size : c.args.from.now.me.0.threads ≡ c.args.self.now.shape.threads = (search rules) in
    let some = c.args.self.now.small.0 in (
      search rules,
      subst (λ (n : ℕ). 0 < n) (sym c.args.self.now.sized) (some_words c.args.self.now.shape.layout c.args.self.now.shape.threads some),
      subst (λ (z : Shape g.row.M.Denot). Splits {S = Option g.row.M.Denot} (Keeps g.M.Resident.stands z) c.args.from.now.id c.args.from.now.me.0 c.args.from.now.me.0 (told_pass c.args.from.now.me.0)) (sym c.args.self.now.keyed)
          (tell_allowed g.M.Resident.stands c.args.self.now.shape c.args.from.now.id c.args.from.now.me.0 (omega arith)),
    )

pub join_seat-requires : goal.join_seat-requires
join_seat-requires g c =
    let size : c.args.to.now.me.0.threads ≡ c.args.self.now.shape.threads = (search rules) in
    let from : c.args.from.now.me.0.threads ≡ c.args.self.now.shape.threads = (search rules) in
    let told : c.split_seat-told.result.me.0 ≡ told_pass c.args.from.now.me.0 = (search rules) in
    let told_size : c.split_seat-told.result.me.0.threads ≡ c.args.from.now.me.0.threads = ap (λ (v : View _). v.threads) told in
    let aside : c.split_seat-told.result.me.0.stage ≡ Aside = ap (λ (v : View _). v.stage) told in
    let nothing : c.split_seat-told.result.me.0.made ≡ [] = ap (λ (v : View _). v.made) told in
    let some = c.args.self.now.small.0 in (
      search rules,
      search rules,
      search rules,
      subst (λ (n : ℕ). 0 < n) (sym c.args.self.now.sized) (some_words c.args.self.now.shape.layout c.args.self.now.shape.threads some),
      subst (λ (z : Shape g.row.M.Denot). Joins {S = Option g.row.M.Denot} (Keeps g.M.Resident.stands z) c.args.to.now.id c.args.to.now.me.0 c.split_seat-told.result.id c.split_seat-told.result.me.0 (heard_pass c.args.to.now.me.0 c.split_seat-told.result.me.0) spent_pass) (sym c.args.self.now.keyed)
          (hear_allowed g.M.Resident.stands c.args.self.now.shape c.args.to.now.id c.args.to.now.me.0 c.split_seat-told.result.id c.split_seat-told.result.me.0 (omega arith) (omega arith) nothing aside),
    )
