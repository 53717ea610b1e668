use Rattle.std.proofs.Common.{subst, ℕ}
use Rattle.std.specs.Prelude.{min}
use Rattle.protocol_values.specs.declared.Row.{Row}
use Rattle.cell_hand.specs.Calls.{Searches}
use Rattle.pcml_cells.proofs.InHandles.{by_hand}
use Rattle.pcml_cells.proofs.commits.search.Goals as goal

pub returns-in-Hand-clause-told : goal.returns-in-Hand-clause-told
returns-in-Hand-clause-told c =
    by_hand c.args.kept.now c.in-Hand.hand c.search.new.self c.tell_met.result _ c.in-Hand.is (c.search.result, subst (λ (r : Row). Searches c.in-Hand.hand c.search.new.self r (min c.args.first 255) c.args.alone c.search.result) c.read.ensures (subst (λ (n : ℕ). Searches c.in-Hand.hand c.search.new.self c.read.result n c.args.alone c.search.result) c.small.ensures c.search.ensures), c.tell_met.ensures.number, c.tell_met.ensures.told)
