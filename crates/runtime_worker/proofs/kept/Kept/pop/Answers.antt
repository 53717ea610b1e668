use Rattle.std.proofs.Common.{List, sym, ap, ◌∙◌, arith, drop, slice_get}
use Rattle.protocol_values.specs.declared.Row.{Row}
use Rattle.runtime_worker.proofs.Windows.{window_take}
use Rattle.runtime_worker.proofs.kept.Kept.pop.Goals as goal

-- the rows are the oldest, and behind it those that are kept then
pub returns : goal.returns
returns c =
    let k = c.self.inside in
    let split = window_take 64 _ _ k.rows c.self.invariant.0 c.self.invariant.1 c.self.invariant.2 (record { thread = 0; sync = 0 }) (omega arith) in
    let both = sym split ∙ c.self.view_is in
    record { oldest = ap (λ (rows : List Row). slice_get rows 0) both; rest = ap (drop 1) both }
