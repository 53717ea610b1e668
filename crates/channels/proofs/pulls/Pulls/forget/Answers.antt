use Rattle.std.proofs.Common.{rules, subst, ◌≡◌, List}
use Rattle.std.specs.List.{filter}
use Rattle.std.proofs.lemmas.Fn.{filter_same}
use Rattle.channels.specs.Buffers.{is_other_pull}
use Rattle.channels.specs.declared.pulls.Pull.{Pull}
use Rattle.channels.proofs.pulls.Pulls.forget.Goals as goal

pub returns : goal.returns
returns c =
    subst (λ (l : List Pull). c.retain.new.self.items ≡ filter (is_other_pull c.args.ticket) l) c.self.view_is
    (filter_same _ (is_other_pull c.args.ticket) _ (λ x b f' k. search rules) _ _ c.retain.ensures.filtered)
