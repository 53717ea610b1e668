use Rattle.std.proofs.Common.{length, sym, ap, ◌∙◌}
use Rattle.runtime_worker.proofs.Windows.{length_window}
use Rattle.runtime_worker.proofs.kept.Kept.len.Goals as goal

pub returns : goal.returns
returns c =
    let k = c.self.inside in
    sym (length_window 64 _ _ k.rows c.self.invariant.0 c.self.invariant.1 c.self.invariant.2) ∙ ap length c.self.view_is
