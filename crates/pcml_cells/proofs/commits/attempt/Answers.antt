use Rattle.std.proofs.Common.{subst, ℕ}
use Rattle.std.specs.Prelude.{min}
use Rattle.protocol_values.specs.declared.Row.{Row}
use Rattle.plain_values.specs.Plain.{row_in}
use Rattle.cell_hand.specs.Calls.{Attempts}
use Rattle.pcml_cells.proofs.InHandles.{by_hand}
use Rattle.pcml_cells.proofs.commits.attempt.Goals as goal

pub returns-in-Hand : goal.returns-in-Hand
returns-in-Hand c =
    let h = c.in-Hand.hand in
    let k = c.attempt.new.self in
    let e = c.attempt.result in
    let mine = row_in c.args.mine in
    let other = row_in c.args.other in
    let first = subst (λ (r : Row). Attempts h k r c.small.result c.read-in-Hand.result c.small-in-Hand.result e) c.read.ensures c.attempt.ensures in
    let own = subst (λ (n : ℕ). Attempts h k mine n c.read-in-Hand.result c.small-in-Hand.result e) c.small.ensures first in
    let second = subst (λ (r : Row). Attempts h k mine (min c.args.own 255) r c.small-in-Hand.result e) c.read-in-Hand.ensures own in
    by_hand c.args.kept.now h k c.attempted.result _ c.in-Hand.is (e, subst (λ (n : ℕ). Attempts h k mine (min c.args.own 255) other n e) c.small-in-Hand.ensures second, c.attempted.ensures)
