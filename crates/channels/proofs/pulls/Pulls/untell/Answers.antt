use Rattle.std.proofs.Common.{◌<◌, List, ℕ, false, length, get_or, slice_set, subst, ◌∙◌, ap, add-one}
use Rattle.channels.specs.Buffers.{untold}
use Rattle.channels.specs.declared.pulls.Pull.{Pull}
use Rattle.channels.proofs.Buffering.{changed-one-more}
use Rattle.channels.proofs.pulls.Pulls.untell.Goals as goal

pub loop-pull-preserved : goal.loop-pull-preserved
loop-pull-preserved c =
    let i = c.loop-pull.pull-index in
    let f = untold c.args.ticket in
    let d : Pull = record { waiting = record { ticket = 0; who = record { place = 0; own = 0 } }; told = false } in
    let same = c.deref_mut-pull-items.ensures.value ∙ c.self.view_is in
    let lt : i < length c.args.self.now = subst (λ (n : ℕ). i < n) (ap length same) c.loop-pull-test.true in
    rw add-one
    (ap (λ (v : Pull). slice_set c.loop-pull.pull-items i v) c.untold.ensures
    ∙ ap (λ (l : List Pull). slice_set l i (f (get_or l i d))) c.loop-pull.invariant
    ∙ changed-one-more f c.args.self.now i d lt)
