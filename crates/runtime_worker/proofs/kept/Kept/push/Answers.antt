use Rattle.std.proofs.Common.{List, [], ◌∷◌, ◌++◌, ◌<◌, length, ap, ◌∙◌, arith}
use Rattle.protocol_values.specs.declared.Row.{Row}
use Rattle.runtime_worker.proofs.Windows.{length_window, window_put}
use Rattle.runtime_worker.proofs.kept.Kept.push.Goals as goal

-- what is written lies behind the last row, since there is room
pub returns : goal.returns
returns c =
    let k = c.self.inside in
    let long = length_window 64 _ _ k.rows c.self.invariant.0 c.self.invariant.1 c.self.invariant.2 in
    let same = ap length c.self.view_is in
    let room : k.count < 64 = omega arith in
    window_put 64 _ _ k.rows c.self.invariant.0 c.self.invariant.1 c.self.invariant.2 c.args.row room
    ∙ ap (λ (rows : List Row). rows ++ c.args.row ∷ []) c.self.view_is
