use Rattle.std.proofs.Common.{subst, ℕ}
use Rattle.cell_hand.specs.Calls.{Courses}
use Rattle.pcml_cells.proofs.InHandles.{by_hand}
use Rattle.pcml_cells.proofs.rows.course.Goals as goal

pub returns-in-Hand : goal.returns-in-Hand
returns-in-Hand c =
    by_hand c.args.kept.now c.in-Hand.hand c.course.new.self c.coursed.result _ c.in-Hand.is (c.course.result, subst (λ (n : ℕ). Courses c.in-Hand.hand c.course.new.self n c.course.result) c.small.ensures c.course.ensures, c.coursed.ensures)
