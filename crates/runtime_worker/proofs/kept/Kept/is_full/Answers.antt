use Rattle.std.proofs.Common.{◌≡◌, ◌≤◌, length, sym, ap, ◌∙◌, rules, subst}
use Rattle.runtime_worker.proofs.Windows.{length_window}
use Rattle.runtime_worker.proofs.kept.Kept.is_full.Goals as goal

pub returns : goal.returns
returns c =
    let k = c.self.inside in
    let long : k.count ≡ length c.args.self.now = sym (length_window 64 _ _ k.rows c.self.invariant.0 c.self.invariant.1 c.self.invariant.2) ∙ ap length c.self.view_is in
    record { full = rw (sym long) (search rules); within = subst (λ n. n ≤ 64) long c.self.invariant.1 }
