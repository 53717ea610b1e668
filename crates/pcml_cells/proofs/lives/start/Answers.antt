use Rattle.std.proofs.Common.{subst, ℕ}
use Rattle.std.specs.Prelude.{min}
use Rattle.protocol_values.specs.declared.Row.{Row}
use Rattle.cell_hand.specs.Calls.{Starts}
use Rattle.pcml_cells.proofs.InHandles.{by_hand}
use Rattle.pcml_cells.proofs.lives.start.Goals as goal

pub returns-in-Hand : goal.returns-in-Hand
returns-in-Hand c =
    by_hand c.args.kept.now c.in-Hand.hand c.start.new.self c.first.result _ c.in-Hand.is (c.start.result, subst (λ (r : Row). Starts c.in-Hand.hand c.start.new.self r (min c.args.thread 255) c.start.result) c.read.ensures (subst (λ (n : ℕ). Starts c.in-Hand.hand c.start.new.self c.read.result n c.start.result) c.small.ensures c.start.ensures), c.first.ensures)
