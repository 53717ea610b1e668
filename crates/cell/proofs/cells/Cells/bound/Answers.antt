use Rattle.std.proofs.Common.{◌≡◌, ℕ, subst}
use Rattle.protocol_values.specs.declared.NackName.{NackName}
use Rattle.protocol_values.specs.declared.Row.{Row}
use Rattle.cell.specs.Calls.{PassOf}
use Rattle.cell_table.specs.Sight.{LearnsOf}
use Rattle.cell.proofs.cells.Cells.bound.Goals as goal

pub returns-clause-learns : goal.returns-clause-learns
returns-clause-learns g c =
    subst (λ (p : PassOf g.row.M.Denot). LearnsOf (λ (q : Row). ⊥) (λ (n : NackName). n ≡ c.args.nack) (λ (t : ℕ). ⊥) p.seen c.word_of.new.seat.me.0.seen) c.pass.view_is c.word_of.ensures.learns
