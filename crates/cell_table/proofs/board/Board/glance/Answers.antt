-- The word of the first row's cell is glanced at.
use Rattle.std.proofs.Common.{rules, subst, sym, ap, ◌∙◌, ◌≡◌, ℕ, ◌<◌, arith}
use Rattle.protocol_ledger.specs.Openings.{Opening}
use Rattle.protocol_ledger.specs.declared.layout.Layout.{Layout}
use Rattle.cell_table.specs.Sight.{AreSettled, Coherent, OpenHaveWords}
use Rattle.cell_table.specs.Views.{opening_in}
use Rattle.protocol_ledger.specs.Short.{HasWords}
use mathlib.Core.Option.{none as nothing}
use Rattle.atomic_table.specs.Table.{Allows, step}
use Rattle.cell_table.specs.declared.view.Shape.{Shape}
use Rattle.cell_table.specs.Rule.{Keeps}
use Rattle.cell_table.specs.Told.{glanced}
use Rattle.cell_table.proofs.Allowing.{glance_allowed}
use Rattle.cell_table.proofs.Dealing.{some_words}
use Rattle.cell_table.proofs.board.Board.glance.Goals as goal

pub load-requires : goal.load-requires
load-requires g c =
    let size = c.args.self.now.small in (
      search rules,
      subst (λ (n : _). 0 < n) (sym c.args.self.now.sized) (some_words c.args.self.now.shape.layout c.args.self.now.shape.threads size.0),
      subst (λ (z : Shape g.row.M.Denot). Allows (Keeps g.M.Resident.stands z) c.args.self.now.words.shared.table_id.slots c.args.seat.now.id c.args.seat.now.me 0 (λ n. n) (glanced (step c.args.self.now.words.shared.table_id.slots 0 0 0 nothing) c.args.seat.now.me)) (sym c.args.self.now.keyed)
          (glance_allowed g.M.Resident.stands c.args.self.now.shape c.args.self.now.words.shared.table_id.slots c.args.seat.now.id 0 c.args.seat.now.me (record { thread = 0; sync = 0 }) (search rules) (search rules) (search rules) (omega (arith, size.0), omega (arith, size.2), c.args.self.now.first_rows 0 (omega (arith, size.0))) (omega arith)),
    )

pub returns-clause-sits : goal.returns-clause-sits
returns-clause-sits g c =
    let told = c.load.ensures.2 in
    let threads : c.load.new.seat.me.0.threads ≡ c.args.self.now.shape.threads = ap (λ z. z.0.threads) told.0 ∙ c.requires.sits.1 in
    let lives : c.load.new.seat.me.0.lives ≡ (opening_in c.args.self.now.shape).threads = ap (λ z. z.0.lives) told.0 ∙ c.requires.sits.4 in
    let nacks : c.load.new.seat.me.0.nacks ≡ (opening_in c.args.self.now.shape).nacks = ap (λ z. z.0.nacks) told.0 ∙ c.requires.sits.5 in
    let wide : c.load.new.seat.me.0.layout ≡ c.args.self.now.shape.layout = ap (λ z. z.0.layout) told.0 ∙ c.requires.sits.6 in
    let rows : c.load.new.seat.me.0.rows ≡ c.args.self.now.shape.rows = ap (λ z. z.0.rows) told.0 ∙ c.requires.sits.2 in (
      c.load.ensures.1,
      (
        c.load.ensures.0 ∙ c.requires.sits.0,
        threads,
        rows,
        subst (λ (z : ℕ × ℕ). Coherent z.0 z.1 c.load.new.seat.me.0.seen) (λ i. (threads i, rows i)) told.1.0,
        ap (λ z. z.0.first) told.0 ∙ c.requires.sits.3,
        lives,
        nacks,
        subst (λ (o : Opening). AreSettled o c.load.new.seat.me.0.seen) (λ i. record { threads = lives i; nacks = nacks i }) told.1.1,
        wide,
        subst (λ (y : Layout). OpenHaveWords y c.load.new.seat.me.0.seen) wide told.1.2,
      ),
      ap (λ z. z.1) told.0,
    )

pub returns-clause-missing : goal.returns-clause-missing
returns-clause-missing g c r row none =
    let told = c.load.ensures.2 in
    told.2 r (subst (λ (n : ℕ). r.thread < n) (sym c.requires.sits.1) row.0) (subst (λ (n : ℕ). r.sync < n) (sym c.requires.sits.2) row.1) (λ h. none (subst (λ (y : Layout). HasWords y r) c.requires.sits.6 h))
