use Rattle.std.proofs.Common.{ℕ, ◌∷◌, true, set, sym, subst}
use Rattle.cell.specs.Flags.{AreFlags}
use Rattle.cell.proofs.Flagging.{one_flag}
use Rattle.cell.proofs.rows.RowSet.insert.Goals as goal

pub returns-clause-more : goal.returns-clause-more
returns-clause-more c held f =
    let s = c.args.self.now in
    subst (λ (n : ℕ). AreFlags s.threads s.rows (set s.flags.items n true) (c.args.row ∷ held)) (sym c.number-at.ensures.0)
    (one_flag s.threads s.rows s.flags.items held c.args.row s.sized c.requires.0 c.requires.1 f)
